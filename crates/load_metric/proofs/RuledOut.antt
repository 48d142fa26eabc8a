-- A reading of the load metric that document 01 rules out, beside the rule, at the marked case where the two give different figures.
-- Proved by computation. Assumes nothing.
use Prim.Native.Nat.{ℕ}
use mathlib.Core.Path.{◌≡◌, refl}
use mathlib.Core.List.{List, [], ◌∷◌, map}
use lib.Dec.{leb, ltb}
use Rattle.tariff.specs.Sum.{when_true, sum_over, filter}
use Rattle.tariff.specs.Settings.{part_of, fraction_at, settings_of, present_settings}
use Rattle.load_metric.specs.declared.block.Block.{Block}
use Rattle.load_metric.specs.Load.{present_hours, hours_above, exceedance_hours, within_exceedance, smallest, smallest_within, metric}

-- ruled out: the blocks above a kW are counted in place of their hours
pub metric_by_blocks : List Block → ℕ
metric_by_blocks bs =
    smallest (filter (λ kw. leb (sum_over bs (λ b. when_true (ltb kw b.kw) 1)) (exceedance_hours present_settings bs)) (map (λ b. b.kw) bs))

-- case 2: 397 hours at 1,000 kW, 3 hours at 5,000
pub blocks2 : List Block
blocks2 = record { first = 0; hours = 397; kw = 1000 } ∷ record { first = 397; hours = 3; kw = 5000 } ∷ []

pub hours_not_blocks : (metric present_settings blocks2 ≡ 5000) × (metric_by_blocks blocks2 ≡ 1000)
unfolding metric smallest_within metric_by_blocks blocks2 within_exceedance hours_above exceedance_hours present_hours smallest filter sum_over when_true part_of present_settings settings_of fraction_at
hours_not_blocks = (refl, refl)
