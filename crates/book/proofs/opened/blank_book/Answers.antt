-- `book::opened::blank_book` meets its contract: arrays with nothing in them. Assumes nothing.
use Rattle.std.proofs.Common.{sym, subst}
use Rattle.book.specs.Reading.{book_in, book_of}
use Rattle.book.specs.Reachable.{Reachable}
use Rattle.book.proofs.EmptyBook.{empty_figures, empty_posted}
use Rattle.book.proofs.opened.blank_book.Goals as goal

pub returns : goal.returns
unfolding book_of book_in
returns c = λ i. record { opening = c.args.opening; figures = empty_figures i; posted = empty_posted i; evidence = c.no_evidence.ensures i }

pub invariant_of-result : goal.invariant_of-result
unfolding book_of book_in
invariant_of-result c = subst Reachable (sym (λ i. book_in c.args.opening (empty_figures i) (empty_posted i) (c.no_evidence.ensures i))) c.requires
