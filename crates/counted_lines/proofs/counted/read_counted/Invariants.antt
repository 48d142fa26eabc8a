-- So far it has read and kept the first k of the lines.
use mathlib.Core.Path.{◌≡◌}
use mathlib.Core.List.{map}
use lib.ListN.{take}
use Rattle.lines.specs.Rows.{rows_of}
use Rattle.counted_lines.specs.Counted.{with_lines}
use Rattle.counted_lines.proofs.CountedLaws.{SoFar}
use Rattle.counted_lines.proofs.counted.read_counted.Given as goal

abbrev pub invariant-loop-k : goal.invariant-loop-k
invariant-loop-k g l = SoFar l.rest l.kind l.count l.k l.consumed l.complete × (l.kept ≡ with_lines (map g.T.CountedLine.line_of (take l.k (rows_of l.rest))) l.initial.kept)
