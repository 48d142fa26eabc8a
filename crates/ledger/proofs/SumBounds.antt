-- The sums that methods form over a ledger's figures and over a migration's lines fit 64 bits. Assumes nothing.
use Prim.Native.Nat.{ℕ, ◌*◌, ◌≤◌, ◌<◌, zero-le}
use mathlib.Core.Path.{◌≡◌}
use mathlib.Core.Bool.{Bool, true, false, not, ◌&&◌, ◌||◌}
use mathlib.Core.List.{List, [], ◌∷◌}
use native.Mathlib.Nat.{le_trans, mul-le-mul, mul-le-mul_right, suc-mul}
use native.Mathlib.Omega.{arith}
use lib.ListN.{length}
use lib.Dec.{ltb, eqb}
use borrow.Author.Tests.{ltb-false}
use Rattle.netting.specs.declared.netting.ClassLine.{ClassLine}
use Rattle.tariff.specs.Sum.{when_true, sum_over, any_of}
use Rattle.netting.specs.Migration.{watts_one_way}
use Rattle.tariff.proofs.Sums.{when_le, sum_add}
use Rattle.tariff.proofs.Tests.{or_unmet}
use Rattle.ledger.specs.Opening.{Opening, legal}
use Rattle.ledger.specs.Call.{Call}
use Rattle.tariff.specs.Ranges.{within}
use Rattle.netting.specs.ClassRanges.{class_line_out_of_range, class_fields_out_of_range}
use Rattle.ledger.specs.Season.{after, held, net}
use Rattle.ledger.proofs.Conserved.{carried_sum, awarded_sum}
use Rattle.ledger.proofs.Bounds.{max_together, Fits, figures_fit}

module _ {A : Type 0} (bad : A → Bool) (f : A → ℕ) (most : ℕ) (each : (x : A) → bad x ≡ false → f x ≤ most) where
  -- lines of which none is bad, each with at most so much, have together at most that for each line
  lines-bound : (xs : List A) → any_of xs bad ≡ false → sum_over xs f ≤ length xs * most
  unfolding any_of sum_over
  lines-bound [] e = zero-le
  lines-bound (x ∷ xs) e =
      let both = or_unmet (bad x) (any_of xs bad) e in
      let rest = lines-bound xs both.1 in
      let own = each x both.0 in
      omega (arith, suc-mul (length xs) most)

-- the products of at most 64 class lines in range, summed one way between two holders
pub watts_fit : (lines : List ClassLine) (i j : ℕ) → length lines ≤ 64 → any_of lines class_line_out_of_range ≡ false → watts_one_way lines i j ≤ 64 * (9999999 * 9999999)
unfolding watts_one_way class_line_out_of_range class_fields_out_of_range
watts_fit lines i j few e =
    le_trans (lines-bound class_line_out_of_range (λ l. when_true (eqb l.from i && eqb l.to j) (l.customers * l.watts)) (9999999 * 9999999) product lines e)
    (mul-le-mul_right (9999999 * 9999999) few)
  where
    product : (l : ClassLine) → class_line_out_of_range l ≡ false → when_true (eqb l.from i && eqb l.to j) (l.customers * l.watts) ≤ 9999999 * 9999999
    product l r =
        let watts = or_unmet (not (within 1 8 l.class) || ltb 9999999 l.customers) (ltb 9999999 l.watts) r in
        let customers = or_unmet (not (within 1 8 l.class)) (ltb 9999999 l.customers) watts.0 in
        let c : l.customers ≤ 9999999 = ltb-false 9999999 l.customers customers.1 in
        let w : l.watts ≤ 9999999 = ltb-false 9999999 l.watts watts.1 in
        le_trans (when_le (eqb l.from i && eqb l.to j) (l.customers * l.watts)) (mul-le-mul c w)

module _ (o : Opening) (ok : legal o ≡ true) (cs : List Call) where
  fits : Fits o (after o cs)
  fits = figures_fit o ok cs

  -- net: carried and awarded holdings of all holders
  pub net_fits : (p m : ℕ) → p < o.paths → net o (after o cs) p m ≤ 11 * max_together
  unfolding net held carried_sum awarded_sum
  net_fits p m l =
      let L = after o cs in
      let split = sum_add (λ h. L.rights.carried h p m) (λ h. L.rights.awarded h p m) o.holders in
      let a = fits.carried_fit p m in
      let b = fits.awarded_fit p m l in
      omega arith
