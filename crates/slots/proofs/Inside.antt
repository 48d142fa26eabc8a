-- Figures that have something only where their group has a slot: what additions and postings keep of that. Assumes nothing.
use Prim.Native.Nat.{ℕ, ◌<◌}
use mathlib.Core.Path.{◌≡◌, ◌∙◌}
use mathlib.Core.Bool.{Bool, true, false, ◌&&◌, ◌||◌}
use mathlib.Core.Logic.{◌⊎◌, inl, inr}
use native.Mathlib.Omega.{arith}
use lib.Dec.{leb, eqb}
use borrow.Author.Tests.{leb-true, eqb-true}
use Rattle.tariff.specs.Terms.{is_month, has_month}
use Rattle.tariff.specs.Sizes.{last_month}
use Rattle.tariff.proofs.Sums.{when_is_false}
use Rattle.tariff.proofs.Tests.{and_both, decided, both_ways}
use Rattle.ledger.specs.Effects.{same2, same3, plus_at2, plus_at3, plus_in_term}
use Rattle.ledger.proofs.TiersSound.{same_place}
use Rattle.slots.specs.Groups.{in_group}
use Rattle.slots.proofs.GroupLaws.{in_group_lem}

module _ {A : Type 0} where
  abbrev pub Inside : ℕ → ℕ → A → (ℕ → ℕ → ℕ → A) → Type 0
  Inside width low none f = (h p m : ℕ) → in_group width low h p m ≡ false → f h p m ≡ none

  abbrev pub Inside2 : A → (ℕ → ℕ → A) → Type 0
  Inside2 none f = (h p : ℕ) → in_group 1 0 h p 0 ≡ false → f h p ≡ none

-- what has a slot is not what has none
pub not_there : (width low a b c h p m : ℕ) → in_group width low a b c ≡ true → in_group width low h p m ≡ false → same3 a b c h p m ≡ false
not_there width low a b c h p m there none = go (decided (same3 a b c h p m))
  where
    go : (same3 a b c h p m ≡ true) ⊎ (same3 a b c h p m ≡ false) → same3 a b c h p m ≡ false
    go (inl s) = let w = same_place a b c h p m s in absurd (both_ways ((λ i. in_group width low (w.0 i) (w.1 i) (w.2 i)) ∙ there) none)
    go (inr s) = s

pub not_there2 : (a b h p : ℕ) → in_group 1 0 a b 0 ≡ true → in_group 1 0 h p 0 ≡ false → same2 a b h p ≡ false
unfolding same2
not_there2 a b h p there none = go (decided (eqb h a && eqb p b))
  where
    go : (eqb h a && eqb p b ≡ true) ⊎ (eqb h a && eqb p b ≡ false) → (eqb h a && eqb p b) ≡ false
    go (inl s) = let w = and_both (eqb h a) (eqb p b) s in absurd (both_ways ((λ i. in_group 1 0 (eqb-true h a w.0 i) (eqb-true p b w.1 i) 0) ∙ there) none)
    go (inr s) = s

pub added_inside : (width low a b c kw : ℕ) (f : ℕ → ℕ → ℕ → ℕ) → in_group width low a b c ≡ true → Inside width low 0 f → Inside width low 0 (plus_at3 a b c kw f)
unfolding plus_at3
added_inside width low a b c kw f there inside h p m none =
    let old = inside h p m none in let more = when_is_false kw (not_there width low a b c h p m there none) in omega arith

pub added_inside2 : (a b kw : ℕ) (f : ℕ → ℕ → ℕ) → in_group 1 0 a b 0 ≡ true → Inside2 0 f → Inside2 0 (plus_at2 a b kw f)
unfolding plus_at2
added_inside2 a b kw f there inside h p none =
    let old = inside h p none in let more = when_is_false kw (not_there2 a b h p there none) in omega arith

pub posted_inside : (width low a b c : ℕ) (f : ℕ → ℕ → ℕ → Bool) → in_group width low a b c ≡ true → Inside width low false f → Inside width low false (λ i j k. same3 a b c i j k || f i j k)
posted_inside width low a b c f there inside h p m none = (λ i. not_there width low a b c h p m there none i || inside h p m none i)

pub posted_inside2 : (a b : ℕ) (f : ℕ → ℕ → Bool) → in_group 1 0 a b 0 ≡ true → Inside2 false f → Inside2 false (λ i j. same2 a b i j || f i j)
posted_inside2 a b f there inside h p none = (λ i. not_there2 a b h p there none i || inside h p none i)

-- what is added in the months of a term
pub term_inside : (term a b kw : ℕ) (f : ℕ → ℕ → ℕ → ℕ) → a < 8 → b < 16 → Inside last_month 1 0 f → Inside last_month 1 0 (plus_in_term term a b kw f)
unfolding plus_in_term same2 has_month is_month
term_inside term a b kw f la lb inside h p m none =
    let old = inside h p m none in
    let more = when_is_false kw (outside (decided (eqb h a && eqb p b && (leb 1 m && leb m 3 && (eqb term 0 || eqb term m))))) in
    omega arith
  where
    outside : (eqb h a && eqb p b && (leb 1 m && leb m 3 && (eqb term 0 || eqb term m)) ≡ true) ⊎ (eqb h a && eqb p b && (leb 1 m && leb m 3 && (eqb term 0 || eqb term m)) ≡ false) → (eqb h a && eqb p b && (leb 1 m && leb m 3 && (eqb term 0 || eqb term m))) ≡ false
    outside (inl s) =
        let both = and_both (eqb h a && eqb p b) (leb 1 m && leb m 3 && (eqb term 0 || eqb term m)) s in
        let place = and_both (eqb h a) (eqb p b) both.0 in
        let month = and_both (leb 1 m) (leb m 3) (and_both (leb 1 m && leb m 3) (eqb term 0 || eqb term m) both.1).0 in
        let ha = eqb-true h a place.0 in
        let pb = eqb-true p b place.1 in
        let low = leb-true 1 m month.0 in
        let high = leb-true m 3 month.1 in
        absurd (both_ways (in_group_lem last_month 1 h p m (omega arith) (omega arith) low (omega arith)) none)
    outside (inr s) = s
