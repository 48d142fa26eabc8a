-- Lines that a head counts: how many bytes they take, what they say, and the array that keeps them.
use Rattle.std.specs.Prelude.{ℕ, zero, suc, ◌+◌, List, ◌++◌, length, take, drop}
use Rattle.load_metric.specs.declared.block.Block.{Block}
use Rattle.netting.specs.declared.netting.ClassLine.{ClassLine}
use Rattle.records.specs.declared.setup.SinkLine.{SinkLine}
use Rattle.records.specs.declared.setup.PathLine.{PathLine}
use Rattle.lines.specs.declared.rows.LineKind.{LineKind}
use Rattle.lines.specs.declared.rows.Row.{Row}
use Rattle.counted_lines.specs.declared.counted.CountedLines.{CountedLines}
use Rattle.lines.specs.Rows.{rows_of, field, counted}
use Rattle.lines.specs.Reading.{next_row}

-- the bytes that so many lines take, or all that are left
unfoldable pub bytes_of_lines : ℕ → List ℕ → ℕ
bytes_of_lines zero script = 0
bytes_of_lines (suc n) script = (next_row script).consumed + bytes_of_lines n (drop (next_row script).consumed script)

-- the lines that are counted, or all that are left
unfoldable pub rows_counted : ℕ → List ℕ → List Row
rows_counted n script = take n (rows_of script)

-- whether there are as many as counted, all of the kind, and how many bytes they take
unfoldable pub counted_of : LineKind → ℕ → List ℕ → CountedLines
counted_of kind n script = record { complete = counted kind n (rows_counted n script); consumed = bytes_of_lines n script }

-- what a block line and a class line say, by the fields of their rows
unfoldable pub block_of : Row → Block
block_of r = record { first = field 0 r; hours = field 1 r; kw = field 2 r }

unfoldable pub class_line_of : Row → ClassLine
class_line_of r = record { from = field 0 r; to = field 1 r; class = field 2 r; customers = field 3 r; watts = field 4 r }

-- what a sink line and a path line say
unfoldable pub sink_line_of : Row → SinkLine
sink_line_of r = record { kind = field 0 r; parent = field 1 r }

unfoldable pub path_line_of : Row → PathLine
path_line_of r = record { source = field 0 r; sink = field 1 r }

-- an array with lines in front, as many as find room; what stands past them is left as it was
unfoldable pub with_lines : {T : Type 0} → List T → List T → List T
with_lines lines array = take (length array) lines ++ drop (length lines) array
