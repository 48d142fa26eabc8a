-- The formula of each tier, as the definition selects it by the tier's number. Assumes nothing.
use Prim.Native.Nat.{ℕ, ◌%◌, ◌≤◌, ◌<◌}
use mathlib.Core.Path.{◌≡◌, ap}
use mathlib.Core.Bool.{false}
use native.Mathlib.Omega.{arith}
use borrow.Author.Tests.{eq-eqb, ne_eqb}
use Rattle.tariff.specs.declared.limit.Formula.TheVariants.{First, Second, Third, Even, Odd, LongTerm}
use Rattle.tariff.specs.Terms.{is_long_term_step}
use Rattle.tariff.specs.Ranges.{within}
use Rattle.tariff.specs.Limit.{formula_of}

pub formula_first : (tier : ℕ) → tier ≡ 1 → formula_of tier ≡ First
unfolding formula_of
formula_first tier e = rw (eq-eqb tier 1 e)

pub formula_second : (tier : ℕ) → tier ≡ 2 → formula_of tier ≡ Second
unfolding formula_of within
formula_second tier e = ap formula_of e

pub formula_third : (tier : ℕ) → 1 ≤ tier → (tier ≡ 1 → ⊥) → tier < 4 → (tier ≡ 2 → ⊥) → formula_of tier ≡ Third
unfolding formula_of within
formula_third tier low one high two = ap formula_of (let e : tier ≡ 3 = omega (arith, one, two) in e)

pub formula_long_term : (tier : ℕ) → tier ≡ 10 → formula_of tier ≡ LongTerm
unfolding formula_of is_long_term_step within
formula_long_term tier e = ap formula_of e

pub formula_even : (tier : ℕ) → (tier ≡ 1 → ⊥) → within 2 3 tier ≡ false → (tier ≡ 10 → ⊥) → tier % 2 ≡ 0 → formula_of tier ≡ Even
unfolding formula_of is_long_term_step
formula_even tier ne out step e = rw (ne_eqb tier 1 ne, out, ne_eqb tier 10 step, eq-eqb (tier % 2) 0 e)

pub formula_odd : (tier : ℕ) → (tier ≡ 1 → ⊥) → within 2 3 tier ≡ false → (tier ≡ 10 → ⊥) → (tier % 2 ≡ 0 → ⊥) → formula_of tier ≡ Odd
unfolding formula_of is_long_term_step
formula_odd tier ne out step e = rw (ne_eqb tier 1 ne, out, ne_eqb tier 10 step, ne_eqb (tier % 2) 0 e)
