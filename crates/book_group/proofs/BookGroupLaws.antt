-- What the book group at the start of a script comes to. Assumes nothing.
use Prim.Native.Nat.{ℕ, ◌+◌, ◌-◌, ◌≤◌}
use mathlib.Core.Path.{◌≡◌, refl, sym, ap, ◌∙◌, subst}
use mathlib.Core.Bool.{Bool, true, false, cond, ◌&&◌, and_assoc, and_comm}
use mathlib.Core.List.{List}
use native.Mathlib.Nat.{le_trans, le_of_eq}
use native.Mathlib.Omega.{arith}
use lib.ListN.{length, take, drop, length-drop}
use lib.Seq.{drop-drop}
use lib.Dec.{eqb}
use borrow.Author.Tests.{eqb-true}
use Rattle.records.specs.declared.setup.KeptOpening.{KeptOpening}
use Rattle.tariff.proofs.Tests.{and_both}
use Rattle.std.specs.Prelude.{Option, Some, None, Result, Ok, Err}
use Rattle.ledger.specs.Opening.{legal}
use Rattle.ledger.specs.Ledger.{empty_ledger}
use Rattle.records.specs.Opening.{kept_opening}
use Rattle.records.specs.declared.refusal.Refusal.{Refusal}
use Rattle.records.specs.declared.refusal.Refusal.TheVariants.{Unreadable}
use Rattle.opening.specs.Opened.{opened}
use Rattle.opening.proofs.KeptOpening.{opened_kept}
use Rattle.book.specs.Reading.{book_of}
use Rattle.book.specs.Reachable.{Reachable}
use Rattle.book.proofs.OpenedLaws.{opened_reachable, opened_book}
use Rattle.lines.specs.declared.rows.Row.{Row}
use Rattle.counted_lines.specs.declared.book_lines.BookLists.{BookLists}
use Rattle.counted_lines.specs.declared.book_lines.BookLines.{BookLines}
use Rattle.lines.specs.declared.lines.NextRow.{NextRow}
use Rattle.lines.specs.declared.rows.LineKind.{LineKind}
use Rattle.lines.specs.declared.rows.LineKind.TheVariants.{Book, Holder, Sink, Path}
use Rattle.lines.specs.Rows.{same_kind, rows_of, field, all_of_kind, counted, holder_rows, sink_rows, path_rows, set_readable, book_line_count}
use Rattle.lines.specs.Reading.{next_row}
use Rattle.counted_lines.specs.Counted.{bytes_of_lines}
use Rattle.counted_lines.specs.BookLines.{book_lines_complete, book_lists_of, book_lines_of}
use Rattle.lines.proofs.FieldLaws.{rest_all}
use Rattle.counted_lines.proofs.RowSteps.{consumed_within}
use Rattle.counted_lines.proofs.LineBytes.{bytes_within, rows_after}
use Rattle.book_group.specs.declared.book_group.BookGroup.{BookGroup}
use Rattle.groups.specs.Groups.{book_readable, opening_of_rows, call_rows}
use Rattle.book_group.specs.BookGroup.{opening_kept, book_group_with, book_group_of}
use Rattle.book_group.proofs.CutLists.{kept_opened}

-- the head is one line
pub after_head : (script : List ℕ) (f : NextRow) → f ≡ next_row script → f.consumed ≡ bytes_of_lines 1 script
unfolding bytes_of_lines
after_head script f e = ap (λ g. g.consumed) e ∙ (omega arith)

-- as many lines as counted
as_counted : (kind : LineKind) (n : ℕ) (lines : List Row) → counted kind n lines ≡ true → length lines ≡ n
unfolding counted
as_counted kind n lines e = eqb-true (length lines) n (and_both (eqb (length lines) n) (all_of_kind kind lines) e).0

readable_parts : (head : Row) (rows : List Row) → book_readable head rows ≡ (book_lines_complete head rows && same_kind head.kind Book)
unfolding book_readable book_lines_complete
readable_parts head rows =
    let kind = same_kind head.kind Book in
    let h = counted Holder (field 0 head) (holder_rows head rows) in
    let s = counted Sink (field 2 head) (sink_rows head rows) in
    let p = counted Path (field 3 head) (path_rows head rows) in
    let r = set_readable head rows in
    ap (λ t. (t && p) && r) (and_assoc kind h s) ∙ ap (λ t. t && r) (and_assoc kind (h && s) p) ∙ and_assoc kind ((h && s) && p) r ∙ and_comm kind (((h && s) && p) && r)

-- a book is opened where there are lists and its head is one
unfoldable pub opened_if : Row → Bool → Option BookLists → Result KeptOpening Refusal
opened_if head is_book (Some lists) = cond is_book (opened (opening_kept head lists)) (Err Unreadable)
opened_if head is_book None = Err Unreadable

-- the lines that a head counts, read from what is left after it
module _ (head : Row) (rest : List ℕ) (lines : BookLines) (e : lines ≡ book_lines_of head rest) where
  abbrev rows : List Row
  rows = rows_of rest

  lines-consumed : lines.consumed ≡ bytes_of_lines (book_line_count head rows) rest
  unfolding book_lines_of
  lines-consumed = ap (λ l. l.consumed) e

  pub lines_within : lines.consumed ≤ length rest
  lines_within = le_trans (le_of_eq lines-consumed) (bytes_within (book_line_count head rows) rest)

  all-counted : book_lines_complete head rows ≡ true → (length (holder_rows head rows) ≡ field 0 head) × (length (sink_rows head rows) ≡ field 2 head) × (length (path_rows head rows) ≡ field 3 head)
  unfolding book_lines_complete
  all-counted there =
      let last = and_both _ _ (and_both _ _ there).0 in
      let first = and_both _ _ last.0 in
      (as_counted Holder (field 0 head) (holder_rows head rows) first.0, as_counted Sink (field 2 head) (sink_rows head rows) first.1, as_counted Path (field 3 head) (path_rows head rows) last.1)

  -- what is opened where all lines are there, and what is answered where they are not
  opened-is : opened_if head (same_kind head.kind Book) lines.lists ≡ cond (book_readable head rows) (opened (opening_of_rows head rows)) (Err Unreadable)
  unfolding book_lines_of opened_if
  opened-is =
      ap (λ l. opened_if head (same_kind head.kind Book) l.lists) e
      ∙ go (book_lines_complete head rows) (same_kind head.kind Book) refl
      ∙ ap (λ t. cond t (opened (opening_of_rows head rows)) (Err Unreadable)) (sym (readable_parts head rows))
    where
      go : (complete is_book : Bool) → book_lines_complete head rows ≡ complete → opened_if head is_book (cond complete (Some (book_lists_of head rows)) None) ≡ cond (complete && is_book) (opened (opening_of_rows head rows)) (Err Unreadable)
      go true true there = kept_opened head rows (book_lists_of head rows) refl (all-counted there)
      go true false there = refl
      go false true there = refl
      go false false there = refl

  pub group_opened : (consumed : ℕ) (kept : Result KeptOpening Refusal) → kept ≡ opened_if head (same_kind head.kind Book) lines.lists → ◌≡◌ {A = BookGroup} (record { opened = kept; consumed = consumed + lines.consumed }) (book_group_with head rows (consumed + bytes_of_lines (book_line_count head rows) rest))
  unfolding book_group_with
  group_opened consumed kept is = λ i. record { opened = (is ∙ opened-is) i; consumed = consumed + lines-consumed i }

-- the head and what is left are those of the script
group_at : NextRow → List ℕ → BookGroup
group_at f rest = book_group_with f.row (rows_of rest) (f.consumed + bytes_of_lines (book_line_count f.row (rows_of rest)) rest)

pub whole_group : (script : List ℕ) (f : NextRow) → f ≡ next_row script → book_group_with f.row (rows_of (take (length script - f.consumed) (drop f.consumed script))) (f.consumed + bytes_of_lines (book_line_count f.row (rows_of (take (length script - f.consumed) (drop f.consumed script)))) (take (length script - f.consumed) (drop f.consumed script))) ≡ book_group_of script
unfolding book_group_of group_at
whole_group script f e =
    ap (group_at f) (rest_all script f.consumed)
    ∙ ap (λ g. group_at g (drop g.consumed script)) e

-- where the calls begin
pub group_consumed : (script : List ℕ) → (book_group_of script).consumed ≡ (next_row script).consumed + bytes_of_lines (book_line_count (next_row script).row (rows_of (drop (next_row script).consumed script))) (drop (next_row script).consumed script)
unfolding book_group_of book_group_with
group_consumed script = refl

module _ (script : List ℕ) where
  abbrev first : Row
  first = (next_row script).row

  abbrev left : List ℕ
  left = drop (next_row script).consumed script

  abbrev counted_lines : ℕ
  counted_lines = book_line_count first (rows_of left)

  pub group_within : (book_group_of script).consumed ≤ length script
  group_within =
      let consumed = group_consumed script in
      let more = bytes_within counted_lines left in
      let len = length-drop (next_row script).consumed script in
      let one = consumed_within script in
      omega arith

  -- what is left has the rows after the book group
  pub group_rows : rows_of (drop (book_group_of script).consumed script) ≡ call_rows first (rows_of left)
  unfolding call_rows
  group_rows = ap (λ u. rows_of (drop u script)) (group_consumed script) ∙ ap rows_of (sym (drop-drop (bytes_of_lines counted_lines left) (next_row script).consumed script)) ∙ rows_after counted_lines left

  -- a run goes on where the group is readable and its opening legal, with that opening
  pub group_opens : (kept : KeptOpening) → (book_group_of script).opened ≡ Ok kept → (book_readable first (rows_of left) ≡ true) × (legal (opening_of_rows first (rows_of left)) ≡ true) × (kept ≡ kept_opening (opening_of_rows first (rows_of left)))
  unfolding book_group_of book_group_with
  group_opens kept e = go (book_readable first (rows_of left)) e
    where
      go : (readable : Bool) → cond readable (opened (opening_of_rows first (rows_of left))) (Err Unreadable) ≡ Ok kept → (readable ≡ true) × (legal (opening_of_rows first (rows_of left)) ≡ true) × (kept ≡ kept_opening (opening_of_rows first (rows_of left)))
      go true w = let k = opened_kept (opening_of_rows first (rows_of left)) kept (sym w) in (refl, k.0, k.1)
      go false w = cc

  -- and its book is one
  pub book_group_reachable : (kept : KeptOpening) → (book_group_of script).opened ≡ Ok kept → Reachable (book_of kept empty_ledger)
  book_group_reachable kept e =
      let opens = group_opens kept e in
      subst Reachable (opened_book (opening_of_rows first (rows_of left)) opens.1 ∙ ap (λ o. book_of o empty_ledger) (sym opens.2)) (opened_reachable (opening_of_rows first (rows_of left)))

-- the head's bytes and those of its lines are in the script
pub lines_fit_lem : (script : List ℕ) (f : NextRow) (lines : BookLines) → f ≡ next_row script → lines ≡ book_lines_of f.row (take (length script - f.consumed) (drop f.consumed script)) → f.consumed + lines.consumed ≤ length script
lines_fit_lem script f lines e el =
    let more = lines_within f.row (take (length script - f.consumed) (drop f.consumed script)) lines el in
    let all = ap length (rest_all script f.consumed) in
    let len = length-drop f.consumed script in
    let one = le_trans (le_of_eq (ap (λ g. g.consumed) e)) (consumed_within script) in
    omega arith
