-- The load metric over blocks of metered hours, by the book's settings (01, Posting, Load; 02, 3/14).
use Rattle.std.specs.Prelude.{ℕ, ◌+◌, ◌*◌, ◌-◌, min, Bool, true, false, not, ◌&&◌, ◌||◌, List, [], ◌∷◌, map, leb, ltb}
use Rattle.load_metric.specs.declared.block.Block.{Block}
use Rattle.tariff.specs.declared.settings.Settings.{Settings}
use Rattle.tariff.specs.Sum.{when_true, sum_over, filter}
use Rattle.tariff.specs.Settings.{part_of}

-- the blocks stand in order from hour `from` on: none begins before the last one ended, each has an hour or more and ends by hour n
unfoldable pub in_order : ℕ → ℕ → List Block → Bool
in_order n from [] = true
in_order n from (b ∷ bs) = leb from b.first && leb 1 b.hours && leb (b.first + b.hours) n && in_order n (b.first + b.hours) bs

unfoldable pub is_empty : List Block → Bool
is_empty [] = true
is_empty (b ∷ bs) = false

-- cause 6: the block list is broken, or there is no block
unfoldable pub blocks_broken : ℕ → List Block → Bool
blocks_broken n bs = is_empty bs || not (in_order n 0 bs)

-- the hours that blocks cover
unfoldable pub present_hours : List Block → ℕ
present_hours bs = sum_over bs (λ b. b.hours)

-- the hours of n that no block covers
unfoldable pub missing_hours : ℕ → List Block → ℕ
missing_hours n bs = n - present_hours bs

-- cause 7: more of the n hours are missing than the fourth fraction of them, 1/50 at present (house); nothing is rounded (02, 3/14)
unfoldable pub too_many_missing : Settings → ℕ → List Block → Bool
too_many_missing settings n bs = ltb (settings.missing.numerator * n) (missing_hours n bs * settings.missing.denominator)

-- the present hours in which the load is above kw: hours are counted, not blocks
unfoldable pub hours_above : ℕ → List Block → ℕ
hours_above kw bs = sum_over bs (λ b. when_true (ltb kw b.kw) b.hours)

-- how many present hours may lie above the metric: the third fraction of them, 1/200 or 0.5% at present, rounded down
unfoldable pub exceedance_hours : Settings → List Block → ℕ
exceedance_hours settings bs = part_of settings.exceedance (present_hours bs)

-- this kW is exceeded in no more than so many hours
unfoldable pub within_exceedance : ℕ → List Block → ℕ → Bool
within_exceedance most bs kw = leb (hours_above kw bs) most

-- the smallest number of a list, 0 for an empty one
unfoldable pub smallest : List ℕ → ℕ
smallest [] = 0
smallest (x ∷ []) = x
smallest (x ∷ y ∷ ys) = min x (smallest (y ∷ ys))

-- the smallest kW among the blocks that is exceeded in no more than so many hours
unfoldable pub smallest_within : ℕ → List Block → ℕ
smallest_within most bs = smallest (filter (within_exceedance most bs) (map (λ b. b.kw) bs))

-- the load metric: the smallest kW among the blocks that is exceeded in no more hours than may be
unfoldable pub metric : Settings → List Block → ℕ
metric settings bs = smallest_within (exceedance_hours settings bs) bs

-- the load posted: the metric less the contract load, not below 0 (house)
unfoldable pub load_posted : Settings → ℕ → List Block → ℕ
load_posted settings contract bs = metric settings bs - contract
