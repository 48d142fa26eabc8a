-- A run over lent bytes: the number that the host gets, and the output buffer (01, Script and host).
use Rattle.std.specs.Prelude.{ℕ, ◌+◌, ◌*◌, Bool, cond, ◌||◌, List, [], ◌++◌, length, drop, ltb}
use Rattle.ledger.specs.Numbers.{unreadable}
use Rattle.records.specs.declared.refusal.Refusal.TheVariants.{OutputTooShort}
use Rattle.records.specs.Refusals.{number_of}
use Rattle.lines.specs.Text.{lines_of, max_lines, max_bytes, bytes_per_line}
use Rattle.lines.specs.Rows.{rows_of}
use Rattle.script.specs.Answers.{script_answers, texts_of}

-- over 65,536 bytes or 4,096 lines is 1
unfoldable pub too_long : List ℕ → Bool
too_long script = ltb max_bytes (length script) || ltb max_lines (length (lines_of script))

-- then output under 16 bytes a line is 15
unfoldable pub too_short : List ℕ → List ℕ → Bool
too_short script out = ltb (length out) (bytes_per_line * length (lines_of script))

-- the answers' bytes
unfoldable pub answers_text : List ℕ → List ℕ
answers_text script = texts_of (script_answers (rows_of script))

-- what is written: nothing where the script or the buffer is refused
unfoldable pub written : List ℕ → List ℕ → List ℕ
written script out = cond (too_long script) [] (cond (too_short script out) [] (answers_text script))

-- the number of a buffer that is too short (01, Refusals by cause)
abbrev pub output_too_short : ℕ
output_too_short = number_of OutputTooShort

-- the refusal of a whole script, 0 for a run
unfoldable pub run_refusal : List ℕ → List ℕ → ℕ
run_refusal script out = cond (too_long script) unreadable (cond (too_short script out) output_too_short 0)

-- the refusal is given in units of 1,000,000, so that the written length fits below
abbrev pub refusal_unit : ℕ
refusal_unit = 1000000

unfoldable pub run_number : List ℕ → List ℕ → ℕ
run_number script out = run_refusal script out * refusal_unit + length (written script out)

-- bytes beyond the written length stay
unfoldable pub output_after : List ℕ → List ℕ → List ℕ
output_after script out = written script out ++ drop (length (written script out)) out
