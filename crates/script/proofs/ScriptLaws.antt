-- A script that is answered: its book group first, then what is left of it. Assumes nothing.
use Prim.Native.Nat.{ℕ, ◌+◌, ◌-◌, ◌≤◌}
use mathlib.Core.Path.{◌≡◌, sym, ap, ◌∙◌, subst}
use mathlib.Core.Bool.{Bool, true, false, cond}
use mathlib.Core.List.{List, ◌++◌}
use native.Mathlib.Nat.{le_trans, le_of_eq}
use native.Mathlib.Omega.{arith}
use lib.ListN.{length, take, drop}
use Rattle.std.specs.Prelude.{Ok, Err}
use Rattle.records.specs.Answers.{Answer, answer_in}
use Rattle.records.specs.Opening.{kept_opening}
use Rattle.records.specs.declared.setup.KeptOpening.{KeptOpening}
use Rattle.records.specs.declared.refusal.Refusal.{Refusal}
use Rattle.ledger.specs.Season.{done}
use Rattle.ledger.specs.Opening.{legal}
use Rattle.ledger.specs.Ledger.{empty_ledger}
use Rattle.records.specs.declared.refusal.Refusal.TheVariants.{Unreadable, BreaksRules}
use Rattle.opening.specs.Opened.{opened}
use Rattle.lines.specs.declared.rows.Row.{Row}
use Rattle.book.specs.Reading.{book_of}
use Rattle.book.specs.Reachable.{Reachable}
use Rattle.lines.specs.Rows.{rows_of, book_line_count}
use Rattle.lines.specs.Reading.{next_row}
use Rattle.lines.specs.declared.output.Output.{Output}
use Rattle.lines.specs.Writing.{HasRoom, Wrote}
use Rattle.counted_lines.proofs.RowSteps.{first_row_lem}
use Rattle.lines.proofs.FieldLaws.{rest_all}
use Rattle.lines.proofs.WritingLaws.{same_length, wrote_both, wrote_as}
use Rattle.book_group.specs.declared.book_group.BookGroup.{BookGroup}
use Rattle.groups.specs.Groups.{book_readable, opening_of_rows, call_rows}
use Rattle.script.specs.Answers.{text_of}
use Rattle.script.specs.GroupTexts.{text_from}
use Rattle.book_group.specs.BookGroup.{book_group_with, book_group_of, group_answer}
use Rattle.script.specs.Writing.{Writable, HasRoomForLines}
use Rattle.script.specs.Run.{answers_text}
use Rattle.groups.proofs.GroupLaws.{drop_shorter}
use Rattle.book_group.proofs.BookGroupLaws.{group_rows, group_within, book_group_reachable}
use Rattle.script.proofs.AnswerLaws.{done_writable, refused_writable}
use Rattle.script.proofs.RunLaws.{run_stops, run_continues}
use Rattle.lines.specs.Text.{max_lines}

-- what the book group is answered fits its line
pub group_writable : (script : List ℕ) → Writable (answer_in (group_answer (book_group_of script).opened))
unfolding book_group_of book_group_with opened answer_in group_answer
group_writable script = go (book_readable first left) (legal (opening_of_rows first left))
  where
    first : Row
    first = (next_row script).row

    left : List Row
    left = rows_of (drop (next_row script).consumed script)

    go : (t u : Bool) → Writable (answer_in (group_answer (cond t (cond u (Ok (kept_opening (opening_of_rows first left))) (Err BreaksRules)) (Err Unreadable))))
    go true true = done_writable
    go true false = refused_writable 16 (omega arith)
    go false u = refused_writable 1 (omega arith)

module _ (script : List ℕ) (out : Output) (some : 1 ≤ length script) (few : length (rows_of script) ≤ max_lines) (room : HasRoomForLines out (length (rows_of script))) (x : BookGroup) (is : x ≡ book_group_of script) where
  -- the part of the script that is left
  abbrev rest : List ℕ
  rest = take (length script - x.consumed) (drop x.consumed script)

  rest-is : rest ≡ drop (book_group_of script).consumed script
  rest-is = rest_all script x.consumed ∙ ap (λ y. drop y.consumed script) is

  -- the script has a row, so there is room for an answer
  first-room : out.length + 16 ≤ length out.bytes.now
  first-room = let all = ap length (first_row_lem script some) in omega arith

  -- what writing the group's answer needs
  module _ (a : Answer) (given : a ≡ group_answer x.opened) where
    first_fits : Writable (answer_in a)
    first_fits = subst (λ y. Writable (answer_in y)) (sym (given ∙ ap (λ y. group_answer y.opened) is)) (group_writable script)

    pub first_writable : HasRoom out (text_of (answer_in a))
    first_writable = let room = first-room in let short = first_fits.short in omega arith

  -- at least the head is not among the rows that are left
  rows_left : length (rows_of rest) + 1 ≤ length (rows_of script)
  unfolding call_rows
  rows_left =
      let head = (next_row script).row in
      let rows = rows_of (drop (next_row script).consumed script) in
      let place = ap (λ s. length (rows_of s)) rest-is in
      let after = ap length (group_rows script) in
      let shorter = drop_shorter (book_line_count head rows) rows in
      let all = ap length (first_row_lem script some) in
      omega arith

  -- a refused book group is all that is answered
  pub stopped : (refusal : Refusal) → x.opened ≡ Err refusal → text_of (answer_in (Err refusal)) ≡ answers_text script
  stopped refusal e = sym (run_stops script some refusal (sym (ap (λ y. y.opened) is) ∙ e))

  -- after any other the groups that are left are answered
  module _ (kept : KeptOpening) (opens : x.opened ≡ Ok kept) where
    of_script : (book_group_of script).opened ≡ Ok kept
    of_script = sym (ap (λ y. y.opened) is) ∙ opens

    pub left_reachable : Reachable (book_of kept empty_ledger)
    left_reachable = book_group_reachable script kept of_script

    pub left_within : x.consumed ≤ length script
    left_within = le_trans (le_of_eq (ap (λ y. y.consumed) is)) (group_within script)

    pub left_few : length (rows_of rest) ≤ max_lines
    left_few = let left = rows_left in omega arith

    abbrev text : List ℕ
    text = text_of done

    abbrev later : List ℕ
    later = text_from (book_of kept empty_ledger) rest

    module _ (first : Output) (wrote : Wrote out first text) where
      pub left_room : HasRoomForLines first (length (rows_of rest))
      left_room =
          let left = rows_left in
          let short = done_writable.short in
          let ends = wrote.2 in
          let same = same_length out first text wrote in
          omega arith

      pub gone_on : (last : Output) → Wrote first last later → Wrote out last (answers_text script)
      gone_on last ended =
          wrote_as out last _ _
          (sym (run_continues script some kept of_script ∙ ap (λ s. text ++ text_from (book_of kept empty_ledger) s) (sym rest-is)))
          (wrote_both out first text wrote last later ended)
