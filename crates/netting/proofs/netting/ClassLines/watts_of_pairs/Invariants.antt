-- `netting::netting::watts_of_pairs` meets its contract: the cells hold the watts of the lines passed so far. Assumes nothing.
use mathlib.Core.Path.{◌≡◌}
use lib.ListN.{length}
use Rattle.netting.proofs.Pairs.{HoldsWatts}
use Rattle.netting.proofs.netting.ClassLines.watts_of_pairs.Given as goal

abbrev pub invariant-loop-k : goal.invariant-loop-k
invariant-loop-k l = (length l.cells ≡ 64) × HoldsWatts l.self.columns.froms.now l.self.columns.tos.now l.self.columns.customers.now l.self.columns.watts.now l.k l.cells
