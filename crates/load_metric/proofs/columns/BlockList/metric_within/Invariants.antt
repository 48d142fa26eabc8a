-- The kW is a block's and within the exceedance, and the level is the step down from it.
use Prim.Native.Nat.{◌+◌, ◌-◌}
use mathlib.Core.Path.{◌≡◌}
use Rattle.load_metric.specs.Levels.{level_below}
use Rattle.load_metric.specs.Columns.{blocks_in}
use Rattle.load_metric.proofs.Found.{Standing}
use Rattle.load_metric.proofs.columns.BlockList.metric_within.Given as goal

abbrev pub invariant-loop-below : goal.invariant-loop-below
invariant-loop-below l = Standing l.exceedance_hours (blocks_in l.self.columns) l.kw × (l.below ≡ level_below l.kw (blocks_in l.self.columns))

abbrev pub decreases-loop-below : goal.decreases-loop-below
decreases-loop-below l = l.most_above + 1 - l.below.above
