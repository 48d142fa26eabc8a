-- `book_group::book_group::open_from_lists` meets its contract: it opens with as much of each list as is counted, at most 16. Assumes nothing.
use mathlib.Core.Path.{ap, ◌∙◌}
use Rattle.opening.specs.Opened.{opened}
use Rattle.book_group.proofs.CutLists.{lent_opening}
use borrow.Author.Rules.{rules}
use Rattle.book_group.proofs.book_group.open_from_lists.Goals as goal

pub returns : goal.returns
returns c = c.open.ensures ∙ ap opened (lent_opening c.args.head c.args.lists (search rules) (search rules) (search rules) _ _ _ c.lent_length.ensures c.lent_length-2.ensures c.lent_length-3.ensures)
