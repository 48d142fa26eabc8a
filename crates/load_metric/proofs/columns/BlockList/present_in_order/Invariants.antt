-- The last block ended by hour n, the hours so far lie before its end, all the blocks are in order where those left are, and the hours so far and those left
-- are the hours of all.
use Prim.Native.Nat.{◌+◌, ◌≤◌}
use mathlib.Core.Path.{◌≡◌}
use lib.ListN.{drop}
use Rattle.load_metric.specs.Load.{in_order, present_hours}
use Rattle.load_metric.specs.Columns.{blocks_in}
use Rattle.load_metric.proofs.columns.BlockList.present_in_order.Given as goal

abbrev pub invariant-loop-k : goal.invariant-loop-k
invariant-loop-k l =
    (l.from ≤ l.n) × (l.present ≤ l.from)
    × (in_order l.n 0 (blocks_in l.self.columns) ≡ in_order l.n l.from (drop l.k (blocks_in l.self.columns)))
    × (l.present + present_hours (drop l.k (blocks_in l.self.columns)) ≡ present_hours (blocks_in l.self.columns))
