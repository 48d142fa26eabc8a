-- What an answer's line needs (01, Script and host).
use Rattle.std.specs.Prelude.{ℕ, ◌+◌, ◌*◌, ◌≤◌, ◌<◌, length}
use Rattle.ledger.specs.Season.{Answer, values, refused}
use Rattle.lines.specs.declared.output.Output.{Output}
use Rattle.lines.specs.Text.{bytes_per_line}
use Rattle.script.specs.Answers.{text_of}

-- each value that the ledger answers is below this, and so has at most twelve digits
abbrev pub answer_value_bound : ℕ
answer_value_bound = 1000000000000

-- a refusal's number is below 100, since it is written in two digits
unfoldable pub TwoDigits : Answer → Type 0
TwoDigits (values vs) = Unit {0}
TwoDigits (refused number) = number < 100

-- an answer that can be written in the bytes that a run needs for each line
pub record Writable (a : Answer) : Type 0 where
  pub two_digits : TwoDigits a
  pub short : length (text_of a) ≤ bytes_per_line

-- there is room for the answers to so many lines after what is written
abbrev pub HasRoomForLines : Output → ℕ → Type 0
HasRoomForLines out lines = out.length + bytes_per_line * lines ≤ length out.bytes.now
