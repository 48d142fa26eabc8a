-- The book group that a script begins with: what it opens, and where the calls begin (01, Script and host; 02, 3/14).
use Rattle.std.specs.Prelude.{ℕ, ◌+◌, cond, List, map, take, drop, None, Result, Ok, Err}
use Rattle.ledger.specs.Opening.{Opening}
use Rattle.records.specs.Opening.{opening_from}
use Rattle.records.specs.Answers.{Answer}
use Rattle.records.specs.declared.setup.KeptOpening.{KeptOpening}
use Rattle.records.specs.declared.refusal.Refusal.{Refusal}
use Rattle.records.specs.declared.refusal.Refusal.TheVariants.{Unreadable}
use Rattle.opening.specs.Opened.{opened}
use Rattle.lines.specs.declared.rows.Row.{Row}
use Rattle.counted_lines.specs.declared.book_lines.BookLists.{BookLists}
use Rattle.lines.specs.Rows.{rows_of, field, book_line_count}
use Rattle.lines.specs.Reading.{next_row}
use Rattle.counted_lines.specs.Counted.{bytes_of_lines}
use Rattle.book_group.specs.declared.book_group.BookGroup.{BookGroup}
use Rattle.groups.specs.Groups.{book_readable, opening_of_rows}

-- the opening of a head with the lists and the settings that were kept: of each as many as the head counts, or all that there are
unfoldable pub opening_kept : Row → BookLists → Opening
opening_kept head lists =
    opening_from (field 0 head) (field 1 head) (field 2 head) (field 3 head)
    (take (field 0 head) lists.holder_kinds)
    (map (λ line. line.kind) (take (field 2 head) lists.sink_lines))
    (map (λ line. line.parent) (take (field 2 head) lists.sink_lines))
    (map (λ line. line.source) (take (field 3 head) lists.path_lines))
    (map (λ line. line.sink) (take (field 3 head) lists.path_lines))
    lists.settings

module _ (head : Row) (rows : List Row) where
  -- a group that is unreadable is refused with 1; a group that is refused opens no book
  unfoldable pub book_group_with : ℕ → BookGroup
  book_group_with consumed =
      record {
        opened = cond (book_readable head rows) (opened (opening_of_rows head rows)) (Err Unreadable);
        consumed = consumed;
      }

-- the script's first line is the head
unfoldable pub book_group_of : List ℕ → BookGroup
book_group_of script =
    let head = (next_row script).row in
    let rest = drop (next_row script).consumed script in
    book_group_with head (rows_of rest) ((next_row script).consumed + bytes_of_lines (book_line_count head (rows_of rest)) rest)

-- what a group is answered: a book that is open, or the refusal
unfoldable pub group_answer : Result KeptOpening Refusal → Answer
group_answer (Ok kept) = Ok None
group_answer (Err refusal) = Err refusal
