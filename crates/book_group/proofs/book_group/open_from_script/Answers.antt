-- `book_group::book_group::open_from_script` meets its contract: the lines after the head are those that it counts, or the group is unreadable. Assumes nothing.
use mathlib.Core.Path.{sym, ◌∙◌}
use Rattle.lines.specs.declared.rows.LineKind.TheVariants.{Book}
use Rattle.lines.proofs.KindLaws.{kinds_compared}
use Rattle.counted_lines.proofs.LineBytes.{here_within}
use Rattle.book_group.proofs.BookGroupLaws.{after_head, lines_fit_lem, opened_if, group_opened, whole_group}
use borrow.Author.Rules.{rules}
use Rattle.book_group.proofs.book_group.open_from_script.Goals as goal
use Rattle.book_group.proofs.book_group.open_from_script.Goals.{in-Some, in_default-2, in_default}

pub slice_bounds-read_book_lines-count : goal.slice_bounds-read_book_lines-count
slice_bounds-read_book_lines-count c = here_within _ _ _ (after_head _ _ c.next_row-first.ensures)

pub slice_bounds-read_book_lines-start : goal.slice_bounds-read_book_lines-start
slice_bounds-read_book_lines-start c = let within = here_within _ _ _ (after_head _ _ c.next_row-first.ensures) in search rules

pub overflow_add-result : goal.overflow_add-result
overflow_add-result c = let within = lines_fit_lem _ _ _ c.next_row-first.ensures c.read_book_lines-lines.ensures in search rules

pub returns : goal.returns
unfolding opened_if
returns c =
    let first = c.next_row-first in
    let lines = c.read_book_lines-lines in
    group_opened first.result.row _ lines.result lines.ensures first.result.consumed _
    (elim c.match-lines.branch [
      | in-Some w ↦ rw w.in-Some.is (rw (sym (w.if-eq.ensures ∙ kinds_compared first.result.row.kind Book)) (w.opened-is ∙ w.open_from_lists-opened.ensures))
      | in_default-2 w ↦ rw w.in-Some.is (rw (sym (w.if-eq.ensures ∙ kinds_compared first.result.row.kind Book)) w.opened-is)
      | in_default w ↦ rw w.in_default.is w.opened-is
    ])
    ∙ whole_group _ first.result first.ensures
