-- The last block ended by hour n, the hours so far lie before its end, all the blocks are in order where those left are, and the hours so far and those left
-- are the hours of all.
use Prim.Native.Nat.{◌+◌, ◌≤◌}
use mathlib.Core.Path.{◌≡◌}
use lib.ListN.{drop}
use Rattle.load_metric.specs.Load.{in_order, present_hours}
use Rattle.load_metric.proofs.load.present_in_order.Given as goal

abbrev pub invariant-loop-b : goal.invariant-loop-b
invariant-loop-b l =
    (l.from ≤ l.n) × (l.present ≤ l.from)
    × (in_order l.n 0 l.blocks ≡ in_order l.n l.from (drop l.b-index l.blocks))
    × (l.present + present_hours (drop l.b-index l.blocks) ≡ present_hours l.blocks)
