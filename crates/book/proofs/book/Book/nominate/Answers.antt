-- `book::Book::nominate` meets its contract: the next book has the figures that were lent. Assumes nothing.
use Rattle.book.specs.Reading.{book_in}
use Rattle.book.proofs.NextBooks.{returned, next_reachable}
use Rattle.book.proofs.book.Book.nominate.Goals as goal

pub invariant_of-self : goal.invariant_of-self
invariant_of-self c = next_reachable _ _ _ _ _ _ _ _ _ c.self.invariant (c.nominate-answer.ensures _ _ c.self.invariant)

pub returns : goal.returns
unfolding book_in
returns c = returned _ _ _ _ _ _ _ _ _ c.self.view_is (c.nominate-answer.ensures _ _ c.self.invariant)
