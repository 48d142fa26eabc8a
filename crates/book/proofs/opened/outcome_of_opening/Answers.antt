-- `book::opened::outcome_of_opening` meets its contract: the opening that is kept, or one with nothing in it. Assumes nothing.
use Rattle.std.proofs.Common.{◌∙◌, ap, subst, sym, Ok, Err}
use Rattle.ledger.specs.Ledger.{empty_ledger}
use Rattle.book.specs.Reading.{book_of}
use Rattle.book.specs.Reachable.{Reachable}
use Rattle.book.proofs.OpenedLaws.{opened_done, opened_refused, kept_reachable, nothing_reachable}
use Rattle.book.proofs.opened.outcome_of_opening.Goals as goal

pub blank_book-requires : goal.blank_book-requires
blank_book-requires c = kept_reachable c.requires.0 _ (sym c.in-Ok.is ∙ c.requires.1)

pub returns-in-Ok : goal.returns-in-Ok
returns-in-Ok c = λ o e. (λ i. record { answer = Ok tt; book = c.blank_book.ensures i }) ∙ opened_done o _ (sym c.in-Ok.is ∙ e)

pub blank_book-requires-in-Err : goal.blank_book-requires-in-Err
blank_book-requires-in-Err c = subst (λ o. Reachable (book_of o empty_ledger)) (sym c.keep_nothing.ensures) nothing_reachable

pub returns-in-Err : goal.returns-in-Err
returns-in-Err c = λ o e. (λ i. record { answer = Err c.in-Err.refusal; book = (c.blank_book-in-Err.ensures ∙ ap (λ o. book_of o empty_ledger) c.keep_nothing.ensures) i }) ∙ opened_refused o _ (sym c.in-Err.is ∙ e)
