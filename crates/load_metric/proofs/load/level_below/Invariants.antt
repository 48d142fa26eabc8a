-- What the pass has found and what the blocks left give is what all of them give.
use Prim.Native.Nat.{◌+◌, max}
use mathlib.Core.Path.{◌≡◌}
use lib.ListN.{drop}
use Rattle.load_metric.specs.Levels.{highest_below, hours_at_least}
use Rattle.load_metric.proofs.load.level_below.Given as goal

abbrev pub invariant-loop-b : goal.invariant-loop-b
invariant-loop-b l =
    (max l.kw (highest_below l.cap (drop l.b-index l.blocks)) ≡ highest_below l.cap l.blocks)
    × (l.above + hours_at_least l.cap (drop l.b-index l.blocks) ≡ hours_at_least l.cap l.blocks)
