-- Laws of what an award adds to a month's holding: all of it, and in the Long Term step nothing. Assumes nothing.
use Prim.Native.Nat.{ℕ, ◌≤◌}
use mathlib.Core.Path.{◌≡◌}
use mathlib.Core.Bool.{not}
use borrow.Author.Tests.{eq-eqb, ne_eqb}
use Rattle.tariff.specs.Sum.{when_true}
use Rattle.tariff.specs.Terms.{is_long_term_step, entering_kw}
use Rattle.tariff.proofs.Sums.{when_le}

pub entering_step : (tier kw : ℕ) → tier ≡ 10 → entering_kw tier kw ≡ 0
unfolding entering_kw is_long_term_step when_true
entering_step tier kw e = rw (eq-eqb tier 10 e)

pub entering_tier : (tier kw : ℕ) → (tier ≡ 10 → ⊥) → entering_kw tier kw ≡ kw
unfolding entering_kw is_long_term_step when_true
entering_tier tier kw ne = rw (ne_eqb tier 10 ne)

pub entering_le : (tier kw : ℕ) → entering_kw tier kw ≤ kw
unfolding entering_kw
entering_le tier kw = when_le (not (is_long_term_step tier)) kw
