-- `book::Book::load_columns` meets its contract: the next book has the figures and the postings that were lent. Assumes nothing.
use Rattle.book.specs.Reading.{book_in}
use Rattle.book.specs.Outcomes.{outcome_of_blocks}
use Rattle.book.proofs.NextBooks.{returned_if, next_reachable_if}
use Rattle.book.proofs.book.Book.load_columns.Goals as goal

pub invariant_of-self : goal.invariant_of-self
invariant_of-self c = next_reachable_if _ _ _ _ _ _ _ _ _ _ c.self.invariant (c.load_columns-answer.ensures _ c.self.invariant)

pub returns : goal.returns
unfolding book_in outcome_of_blocks
returns c = returned_if _ _ _ _ _ _ _ _ _ c.self.view_is _ c.self.invariant (c.load_columns-answer.ensures _ c.self.invariant)
