-- Laws of a fraction of a number: it is no more than the number, and can be taken of the whole denominators and of what is left. Assumes nothing.
use Prim.Native.Nat.{ℕ, ◌+◌, ◌*◌, ◌/◌, ◌%◌, ◌≤◌, ◌<◌}
use mathlib.Core.Path.{◌≡◌, sym, ap, ◌∙◌}
use mathlib.Core.Bool.{true}
use native.Mathlib.Nat.{mul_comm, mul_assoc, mul-add, mul-le-mul_right, div-add-mod', mul-add-div_right, div-le_of_le-mul}
use native.Mathlib.Omega.{arith}
use borrow.Author.Tests.{leb-true}
use Rattle.tariff.specs.declared.settings.Fraction.{Fraction}
use Rattle.tariff.specs.declared.settings.Settings.{Settings}
use Rattle.tariff.specs.Sizes.{max_fraction}
use Rattle.tariff.specs.Settings.{part_of, fraction_legal, settings_legal}
use Rattle.tariff.proofs.Tests.{and_both}

-- what a legal fraction is
pub record FractionFacts (f : Fraction) : Type 0 where
  pub numerator_fits : f.numerator ≤ max_fraction
  pub some : 0 < f.denominator
  pub denominator_fits : f.denominator ≤ max_fraction
  pub not_above : f.numerator ≤ f.denominator

pub fraction_facts : (f : Fraction) → fraction_legal f ≡ true → FractionFacts f
unfolding fraction_legal
fraction_facts f e =
    let two = and_both _ _ e in
    let one = and_both _ _ two.0 in
    let range = and_both _ _ one.1 in
    record {
      numerator_fits = leb-true _ _ one.0;
      some = let low : 1 ≤ f.denominator = leb-true _ _ range.0 in omega arith;
      denominator_fits = leb-true _ _ range.1;
      not_above = leb-true _ _ two.1;
    }

module _ (n d x : ℕ) (some : 0 < d) where
  whole-and-left : n * x ≡ x / d * n * d + x % d * n
  whole-and-left =
      ap (λ y. n * y) (sym (div-add-mod' x d))
      ∙ mul-add n (x / d * d) (x % d)
      ∙ (λ i. (sym (mul_assoc n (x / d) d) ∙ ap (λ y. y * d) (mul_comm n (x / d))) i + mul_comm n (x % d) i)

  pub by_whole : x / d * n + x % d * n / d ≡ n * x / d
  by_whole = sym (ap (λ y. y / d) whole-and-left ∙ mul-add-div_right some (x / d * n) (x % d * n))

module _ (f : Fraction) (e : fraction_legal f ≡ true) (x : ℕ) where
  facts : FractionFacts f
  facts = fraction_facts f e

  -- no fraction of a number is above it
  pub part_le : part_of f x ≤ x
  unfolding part_of
  part_le = div-le_of_le-mul f.denominator (mul-le-mul_right x facts.not_above)

-- every fraction of legal settings is legal
pub record EachLegal (s : Settings) : Type 0 where
  pub seasonal : fraction_legal s.seasonal ≡ true
  pub priority : fraction_legal s.priority ≡ true
  pub exceedance : fraction_legal s.exceedance ≡ true
  pub missing : fraction_legal s.missing ≡ true
  pub without_evidence : fraction_legal s.without_evidence ≡ true
  pub with_evidence : fraction_legal s.with_evidence ≡ true

pub each_legal : (s : Settings) → settings_legal s ≡ true → EachLegal s
unfolding settings_legal
each_legal s e =
    let five = and_both _ _ e in
    let four = and_both _ _ five.0 in
    let three = and_both _ _ four.0 in
    let two = and_both _ _ three.0 in
    let one = and_both _ _ two.0 in
    record {
      seasonal = one.0;
      priority = one.1;
      exceedance = two.1;
      missing = three.1;
      without_evidence = four.1;
      with_evidence = five.1;
    }
