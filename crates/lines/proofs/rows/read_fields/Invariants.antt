-- `lines::rows::read_fields` meets its contract: what is read of the fields so far, and what is left of the line, give what is read of them all. Assumes nothing.
use Prim.Native.Nat.{◌-◌, ◌≤◌}
use mathlib.Core.Path.{◌≡◌}
use lib.ListN.{length}
use Rattle.lines.specs.Rows.{max_fields}
use Rattle.lines.specs.Reading.{fields_read}
use Rattle.lines.proofs.FieldLaws.{read_from}
use Rattle.lines.proofs.rows.read_fields.Given as goal

abbrev pub invariant-loop-count : goal.invariant-loop-count
invariant-loop-count l = (l.count ≤ max_fields) × (length l.numbers ≡ max_fields) × (length l.left ≤ length l.rest) × (fields_read l.rest ≡ read_from l.count l.numbers (length l.rest - length l.left) l.left)

abbrev pub decreases-loop-count : goal.decreases-loop-count
decreases-loop-count l = max_fields - l.count
