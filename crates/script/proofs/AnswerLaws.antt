-- The line of each kind of answer has at most the bytes that a run needs for a line. Assumes nothing.
use Prim.Native.Nat.{ℕ, ◌≤◌, ◌<◌}
use native.Mathlib.Omega.{arith}
use lib.ListN.{length, length-append}
use Rattle.ledger.specs.Season.{done, value, refused}
use Rattle.lines.specs.Text.{bytes_of, decimal}
use Rattle.lines.proofs.DigitLaws.{digits_few}
use Rattle.script.specs.Answers.{value_field, value_fields, text_of}
use Rattle.script.specs.Writing.{answer_value_bound, TwoDigits, Writable}

pub done_writable : Writable done
unfolding text_of value_fields bytes_of TwoDigits
done_writable = record { two_digits = tt; short = omega arith }

decimal_few : (v : ℕ) → v < answer_value_bound → length (decimal v) ≤ 12
unfolding decimal
decimal_few v small = digits_few 20 11 v small

pub value_writable : (v : ℕ) → v < answer_value_bound → Writable (value v)
unfolding text_of value_field value_fields bytes_of TwoDigits
value_writable v small = record { two_digits = tt; short = simp length-append (let few = decimal_few v small in omega arith) }

pub refused_writable : (number : ℕ) → number < 100 → Writable (refused number)
unfolding text_of bytes_of TwoDigits
refused_writable number small = record { two_digits = small; short = omega arith }
