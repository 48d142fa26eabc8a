-- `tier_limits::limits::PathSums::with_path` meets its contract: a path that does not count leaves the sums, and one that counts adds its figures. Assumes nothing.
use mathlib.Core.Bool.{not}
use mathlib.Core.Path.{ap}
use Rattle.tier_limits.proofs.PathSumLaws.{left_out, added}
use Rattle.tier_limits.proofs.limits.PathSums.with_path.Goals as goal

pub returns-then-not-counts : goal.returns-then-not-counts
returns-then-not-counts c = left_out _ _ _ _ _ _ (ap not c.if-not-counts.true)

pub returns : goal.returns
returns c = added _ _ _ _ _ _ _ _ _ _ _ _ (ap not c.if-not-counts.false) c.read.ensures c.read-2.ensures c.read-3.ensures c.read-4.ensures c.read-5.ensures c.read-6.ensures
