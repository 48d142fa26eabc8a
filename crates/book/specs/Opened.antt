-- What opening a book returns (01, The book, and cause 16).
use Rattle.ledger.specs.Opening.{Opening}
use Rattle.ledger.specs.Ledger.{empty_ledger}
use Rattle.records.specs.Opening.{kept_opening}
use Rattle.opening.specs.Opened.{opening_answer, resulting_opening}
use Rattle.book.specs.declared.book.Outcome.{Outcome}
use Rattle.book.specs.Reading.{book_of}

-- the answer, beside the book of the opening, all at 0 or empty; a refused one is answered beside the book of an opening with nothing in it,
-- so that every book returned is one that opening and calls lead to
unfoldable pub opening_outcome : Opening → Outcome
opening_outcome o = record { answer = opening_answer o; book = book_of (kept_opening (resulting_opening o)) empty_ledger }
