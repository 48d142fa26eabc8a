-- `book::Book::prior` meets its contract: the next book has the figures and the postings that were lent. Assumes nothing.
use Rattle.book.specs.Reading.{book_in}
use Rattle.book.proofs.NextBooks.{returned, next_reachable}
use Rattle.book.proofs.book.Book.prior.Goals as goal

pub invariant_of-self : goal.invariant_of-self
invariant_of-self c = next_reachable _ _ _ _ _ _ _ _ _ c.self.invariant (c.prior-answer.ensures _ c.self.invariant)

pub returns : goal.returns
unfolding book_in
returns c = returned _ _ _ _ _ _ _ _ _ c.self.view_is (c.prior-answer.ensures _ c.self.invariant)
