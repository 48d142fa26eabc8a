-- `book::Book::net` meets its contract: the answer is that of the arrays that were lent. Assumes nothing.
use Rattle.slots.specs.Steps.{query_answer}
use Rattle.book.specs.Reading.{ledger_of, opening_of_book}
use Rattle.book.specs.Outcomes.{query_answer_in}
use Rattle.book.proofs.book.Book.net.Goals as goal

pub returns : goal.returns
unfolding query_answer_in query_answer opening_of_book ledger_of
returns c = rw (← c.self.view_is) (c.net.ensures _ _ c.self.invariant)
