-- What the pass has found and what the blocks left give is what all of them give.
use Prim.Native.Nat.{◌+◌, max}
use mathlib.Core.Path.{◌≡◌}
use lib.ListN.{drop}
use Rattle.load_metric.specs.Levels.{highest_below, hours_at_least}
use Rattle.load_metric.specs.Columns.{blocks_in}
use Rattle.load_metric.proofs.columns.BlockList.level_below.Given as goal

abbrev pub invariant-loop-k : goal.invariant-loop-k
invariant-loop-k l =
    (max l.kw (highest_below l.cap (drop l.k (blocks_in l.self.columns))) ≡ highest_below l.cap (blocks_in l.self.columns))
    × (l.above + hours_at_least l.cap (drop l.k (blocks_in l.self.columns)) ≡ hours_at_least l.cap (blocks_in l.self.columns))
