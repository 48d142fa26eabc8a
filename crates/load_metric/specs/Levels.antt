-- What the passes over a block list give, from which the metric is found. These are no rules of 01: they say what the private functions of
-- src/load.rt promise each other.
use Rattle.std.specs.Prelude.{ℕ, ◌<◌, ◌^◌, max, ◌≡◌, Option, Some, None, cond, false, List, [], ◌∷◌, map, leb, ltb, eqb, length}
use Rattle.load_metric.specs.declared.block.Block.{Block}
use Rattle.load_metric.specs.declared.load.Level.{Level}
use Rattle.tariff.specs.Sum.{when_true, sum_over, any_of}
use Rattle.load_metric.specs.Load.{in_order, present_hours}

-- the hours that blocks cover, where they stand in order within n hours
unfoldable pub ordered_hours : ℕ → List Block → Option ℕ
ordered_hours n bs = cond (in_order n 0 bs) (Some (present_hours bs)) None

-- the highest of some kW, 0 without one
unfoldable pub highest_kw : List ℕ → ℕ
highest_kw [] = 0
highest_kw (k ∷ ks) = max k (highest_kw ks)

-- the highest kW of the blocks that are below a kW, 0 without one
unfoldable pub highest_below : ℕ → List Block → ℕ
highest_below cap [] = 0
highest_below cap (b ∷ bs) = max (when_true (ltb b.kw cap) b.kw) (highest_below cap bs)

-- the present hours in which the load is at or above a kW
unfoldable pub hours_at_least : ℕ → List Block → ℕ
hours_at_least cap bs = sum_over bs (λ b. when_true (leb cap b.kw) b.hours)

-- a step down from a kW: the next kW, and the hours above that one
unfoldable pub level_below : ℕ → List Block → Level
level_below cap bs = record { kw = highest_below cap bs; above = hours_at_least cap bs }

-- the kW of blocks, one after another
abbrev pub kws_of : List Block → List ℕ
kws_of bs = map (λ b. b.kw) bs

-- every block has an hour or more
abbrev pub EachHasHours : List Block → Type 0
EachHasHours bs = any_of bs (λ b. eqb b.hours 0) ≡ false

-- the hours together fit 64 bits
abbrev pub Countable : List Block → Type 0
Countable bs = present_hours bs < 2 ^ 64

-- what is known where the metric is looked for: there is a block, the blocks have `present` hours together, and each an hour or more
pub record MetricInputs (bs : List Block) (present : ℕ) : Type 0 where
  pub some : 0 < length bs
  pub covered : present_hours bs ≡ present
  pub each_has_hours : EachHasHours bs
