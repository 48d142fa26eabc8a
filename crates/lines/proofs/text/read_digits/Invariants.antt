-- `lines::text::read_digits` meets its contract: the value of the digits read so far is below a power of ten, so that nine of them fit. Assumes nothing.
use Prim.Native.Nat.{◌^◌, ◌≤◌, ◌<◌}
use lib.ListN.{length}
use Rattle.lines.specs.Text.{max_digits}
use Rattle.lines.proofs.NumberLaws.{DigitsTo}
use Rattle.lines.proofs.text.read_digits.Given as goal

abbrev pub invariant-loop-i : goal.invariant-loop-i
invariant-loop-i l = (l.i ≤ l.limit) × (l.limit ≤ length l.rest) × (l.limit ≤ max_digits) × (l.value < 10 ^ l.i) × DigitsTo l.rest l.i l.value
