-- A run's answers from its book group and the groups after it. Assumes nothing.
use Prim.Native.Nat.{ℕ, zero, suc, ◌*◌, ◌≤◌, ◌<◌, zero-le}
use mathlib.Core.Path.{◌≡◌, refl, sym, ap, ◌∙◌}
use mathlib.Core.Bool.{Bool, true, false, cond, ◌||◌}
use mathlib.Core.List.{List, [], ◌∷◌, ◌++◌, map, append-nil}
use native.Mathlib.Nat.{zero-add}
use native.Mathlib.Omega.{arith}
use lib.ListN.{length, drop}
use lib.Dec.{ltb}
use borrow.Author.Tests.{lt-ltb, le-ltb}
use Rattle.records.specs.declared.setup.KeptOpening.{KeptOpening}
use Rattle.std.specs.Prelude.{Ok, Err}
use Rattle.ledger.specs.Opening.{Opening, legal, opening_refusal}
use Rattle.ledger.specs.Ledger.{empty_ledger}
use Rattle.ledger.specs.Season as ledger
use Rattle.ledger.specs.Season.{after, after_from}
use Rattle.records.specs.declared.refusal.Refusal.TheVariants.{Unreadable, BreaksRules}
use Rattle.records.specs.Answers.{answer_in}
use Rattle.records.specs.Opening.{kept_opening}
use Rattle.records.specs.declared.refusal.Refusal.{Refusal}
use Rattle.opening.specs.Opened.{opened}
use Rattle.book.specs.Reading.{book_of}
use Rattle.book.specs.Opened.{opening_outcome}
use Rattle.book.proofs.OpenedLaws.{opened_book}
use Rattle.book.proofs.SeasonAnswers.{opened_at}
use Rattle.lines.specs.declared.rows.Row.{Row}
use Rattle.lines.specs.Text.{lines_of, max_lines, max_bytes}
use Rattle.lines.specs.Rows.{rows_of}
use Rattle.lines.specs.Reading.{next_row}
use Rattle.lines.specs.Writing.{written_at}
use Rattle.counted_lines.proofs.RowSteps.{first_row_lem}
use Rattle.groups.specs.Groups.{groups_of, book_readable, opening_of_rows, call_rows}
use Rattle.script.specs.Answers.{answers_to, answers_after, script_answers, text_of, texts_of}
use Rattle.script.specs.GroupTexts.{answers_of, text_from}
use Rattle.book_group.specs.BookGroup.{book_group_with, book_group_of, group_answer}
use Rattle.script.specs.Run.{too_long, too_short, answers_text, written, run_refusal, output_after}
use Rattle.script.proofs.GroupTextLaws.{groups_answered}
use Rattle.book_group.proofs.BookGroupLaws.{group_rows, group_opens}

-- what the groups after a legal opening are answered
groups_text : (o : Opening) → legal o ≡ true → (rows : List Row) → texts_of (map answer_in (answers_of (opening_outcome o).book (groups_of rows))) ≡ texts_of (answers_to o empty_ledger (groups_of rows))
unfolding after after_from
groups_text o e rows = ap (λ b. texts_of (map answer_in (answers_of b (groups_of rows)))) (opened_at o e) ∙ ap texts_of (groups_answered o e [] (groups_of rows))

after_text : (o : Opening) → legal o ≡ true → (rows : List Row) → texts_of (answers_after o rows) ≡ text_of ledger.done ++ texts_of (map answer_in (answers_of (book_of (kept_opening o) empty_ledger) (groups_of rows)))
unfolding answers_after texts_of
after_text o e rows =
    ap (λ t. texts_of (cond t (ledger.done ∷ answers_to o empty_ledger (groups_of rows)) (ledger.refused (opening_refusal o) ∷ []))) e
    ∙ ap (λ text. text_of ledger.done ++ text) (sym (groups_text o e rows) ∙ ap (λ b. texts_of (map answer_in (answers_of b (groups_of rows)))) (opened_book o e))

-- a book group that ends the run is answered by itself
stops : (head : Row) (rows : List Row) (consumed : ℕ) (refusal : Refusal) → (book_group_with head rows consumed).opened ≡ Err refusal → texts_of (script_answers (head ∷ rows)) ≡ text_of (answer_in (group_answer (book_group_with head rows consumed).opened))
unfolding book_group_with script_answers answers_after texts_of opened opening_refusal group_answer answer_in
stops head rows consumed refusal e = go (book_readable head rows) (legal (opening_of_rows head rows)) e
  where
    kept : KeptOpening
    kept = kept_opening (opening_of_rows head rows)

    go : (readable is_legal : Bool) → cond readable (cond is_legal (Ok kept) (Err BreaksRules)) (Err Unreadable) ≡ Err refusal → texts_of (cond readable (cond is_legal (ledger.done ∷ answers_to (opening_of_rows head rows) empty_ledger (groups_of (call_rows head rows))) (ledger.refused (cond is_legal 0 16) ∷ [])) (ledger.refused 1 ∷ [])) ≡ text_of (answer_in (group_answer (cond readable (cond is_legal (Ok kept) (Err BreaksRules)) (Err Unreadable))))
    go true true w = cc
    go true false w = append-nil _
    go false is_legal w = append-nil _

-- of a script that has a line
module _ (script : List ℕ) (some : 1 ≤ length script) where
  head : Row
  head = (next_row script).row

  rows : List Row
  rows = rows_of (drop (next_row script).consumed script)

  pub run_stops : (refusal : Refusal) → (book_group_of script).opened ≡ Err refusal → answers_text script ≡ text_of (answer_in (Err refusal))
  unfolding answers_text book_group_of head rows group_answer
  run_stops refusal e = ap (λ all. texts_of (script_answers all)) (first_row_lem script some) ∙ stops head rows _ refusal e ∙ ap (λ opened. text_of (answer_in (group_answer opened))) e

  -- one that does not is answered, and then the groups after it
  pub run_continues : (kept : KeptOpening) → (book_group_of script).opened ≡ Ok kept → answers_text script ≡ text_of ledger.done ++ text_from (book_of kept empty_ledger) (drop (book_group_of script).consumed script)
  unfolding answers_text script_answers head rows text_from
  run_continues kept e =
      let opens = group_opens script kept e in
      let o = opening_of_rows head rows in
      ap (λ all. texts_of (script_answers all)) (first_row_lem script some)
      ∙ ap (λ t. texts_of (cond t (answers_after o (call_rows head rows)) (ledger.refused 1 ∷ []))) opens.0
      ∙ after_text o opens.1 (call_rows head rows)
      ∙ (λ i. text_of ledger.done ++ texts_of (map answer_in (answers_of (book_of (sym opens.2 i) empty_ledger) (groups_of (sym (group_rows script) i)))))

-- what is written from the start on
from_start : (out text : List ℕ) → written_at out 0 text ≡ text ++ drop (length text) out
unfolding written_at
from_start out text = ap (λ n. text ++ drop n out) (zero-add (length text))

either : (a b : Bool) → b ≡ true → (a || b) ≡ true
either true b e = refl
either false b e = e

-- a run that is refused so, and writes so much into such a buffer
abbrev Ran : List ℕ → List ℕ → ℕ → ℕ → List ℕ → Type 0
Ran script out refusal n out₁ = (refusal ≡ run_refusal script out) × (n ≡ length (written script out)) × (out₁ ≡ output_after script out)

module _ (script out : List ℕ) where
  long : too_long script ≡ true → Ran script out 1 0 out
  unfolding run_refusal output_after written
  long e = rw e (refl, refl, refl)

  pub long_bytes : max_bytes < length script → Ran script out 1 0 out
  unfolding too_long
  long_bytes l = long (rw (lt-ltb max_bytes (length script) l))

  pub long_lines : max_lines < length (lines_of script) → Ran script out 1 0 out
  unfolding too_long
  long_lines l = long (either (ltb max_bytes (length script)) (ltb max_lines (length (lines_of script))) (lt-ltb max_lines (length (lines_of script)) l))

  module _ (bytes : length script ≤ max_bytes) (lines : length (lines_of script) ≤ max_lines) where
    not-long : too_long script ≡ false
    unfolding too_long
    not-long = rw (le-ltb max_bytes (length script) bytes) (le-ltb max_lines (length (lines_of script)) lines)

    pub short_output : length out < 16 * length (lines_of script) → Ran script out 15 0 out
    unfolding run_refusal output_after written too_short
    short_output l = rw not-long (rw (lt-ltb (length out) (16 * length (lines_of script)) l) (refl, refl, refl))

    pub a_run : 16 * length (lines_of script) ≤ length out → (n : ℕ) (out₁ : List ℕ) → n ≡ length (answers_text script) → out₁ ≡ written_at out 0 (answers_text script) → Ran script out 0 n out₁
    unfolding run_refusal output_after written too_short
    a_run room n out₁ e o = rw not-long (rw (le-ltb (length out) (16 * length (lines_of script)) room) (refl, e, o ∙ from_start out (answers_text script)))

no_answers : answers_text [] ≡ []
unfolding answers_text rows_of lines_of script_answers texts_of
no_answers = refl

-- an empty script writes nothing
pub no_bytes : (script out : List ℕ) → length script ≡ 0 → Ran script out 0 0 out
unfolding lines_of
no_bytes [] out e = a_run [] out zero-le zero-le zero-le 0 out (sym (ap length no_answers)) (sym (from_start out (answers_text []) ∙ ap (λ text. text ++ drop (length text) out) no_answers))
no_bytes (b ∷ script) out e = absurd (let z : ⊥ = omega arith in z)

pub some_bytes : (n : ℕ) → (n ≡ 0 → ⊥) → 1 ≤ n
some_bytes zero ne = absurd (ne refl)
some_bytes (suc n) ne = omega arith
