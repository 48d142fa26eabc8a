-- The two readings of a migration that document 01 rules out, each beside the rule, at the marked case where the two give different figures.
-- Proved by computation. Assumes nothing.
use Prim.Native.Nat.{ℕ, ◌-◌, ◌/◌}
use mathlib.Core.Path.{◌≡◌, refl}
use mathlib.Core.Bool.{cond, ◌&&◌}
use mathlib.Core.List.{List, [], ◌∷◌}
use lib.Dec.{leb, eqb}
use Rattle.tariff.specs.Sum.{when_true, sum_to, sum_over}
use Rattle.netting.specs.declared.netting.ClassLine.{ClassLine}
use Rattle.netting.specs.Migration.{watts_one_way, netted, share, shares, transferred}

-- ruled out: gainers take their shares one after another, each from what the one before left
pub keeps_one_by_one : (ℕ → ℕ) → ℕ → ℕ → ℕ
keeps_one_by_one v m L = let left = v 0 - share (v 0) m L in left - share left m L

-- case 8: holder 0 has 100, and 500 of its load of 1,000 go to each of holders 1 and 2
pub column8 : ℕ → ℕ
column8 i = cond (eqb i 0) 100 0

pub m8 : ℕ → ℕ → ℕ
m8 i j = cond (eqb i 0 && leb 1 j) 500 0

pub shares_at_once : (transferred 3 (shares m8 (λ i. 1000) column8) column8 0 ≡ 0) × (keeps_one_by_one column8 500 1000 ≡ 25)
unfolding transferred shares share sum_to column8 m8 keeps_one_by_one
shares_at_once = (refl, refl)

-- ruled out: each way is rounded to kW before the smaller is taken from the larger
pub netted_rounded : List ClassLine → ℕ → ℕ → ℕ
netted_rounded lines i j = watts_one_way lines i j / 1000 - watts_one_way lines j i / 1000

-- case 10: 1,500 W from holder 0 to holder 1, 501 W back
pub lines10 : List ClassLine
lines10 = record { from = 0; to = 1; class = 1; customers = 1; watts = 1500 } ∷ record { from = 1; to = 0; class = 1; customers = 1; watts = 501 } ∷ []

pub netted_then_rounded : (netted lines10 0 1 ≡ 0) × (netted_rounded lines10 0 1 ≡ 1)
unfolding netted netted_rounded watts_one_way sum_over when_true lines10
netted_then_rounded = (refl, refl)
