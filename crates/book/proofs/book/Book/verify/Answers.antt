-- `book::Book::verify` meets its contract: the next book is made of the arrays that were lent, and of the evidence filed in. Assumes nothing.
use Rattle.book.specs.Reading.{book_in}
use Rattle.book.proofs.NextBooks.{returned, next_reachable}
use Rattle.book.proofs.book.Book.verify.Goals as goal

pub invariant_of-self : goal.invariant_of-self
invariant_of-self c = next_reachable _ _ _ _ _ _ _ _ _ c.self.invariant c.verify_and_file-answer.ensures

pub returns : goal.returns
unfolding book_in
returns c = returned _ _ _ _ _ _ _ _ _ c.self.view_is c.verify_and_file-answer.ensures
