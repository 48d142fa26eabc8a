-- `book::Book::migrate` meets its contract: the next book has the figures that were lent. Assumes nothing.
use Rattle.book.specs.Reading.{book_in}
use Rattle.book.specs.Outcomes.{outcome_of_lines}
use Rattle.book.proofs.NextBooks.{returned_if, next_reachable_if}
use Rattle.book.proofs.book.Book.migrate.Goals as goal

pub invariant_of-self : goal.invariant_of-self
invariant_of-self c = next_reachable_if _ _ _ _ _ _ _ _ _ _ c.self.invariant (c.migrate-answer.ensures _ _ c.self.invariant)

pub returns : goal.returns
unfolding book_in outcome_of_lines
returns c = returned_if _ _ _ _ _ _ _ _ _ c.self.view_is _ c.self.invariant (c.migrate-answer.ensures _ _ c.self.invariant)
