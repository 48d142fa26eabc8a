-- The book of arrays and of a ledger, and the ledger and the opening that stand in a book.
use Rattle.std.specs.Prelude.{ℕ, Bool, List}
use Rattle.source_evidence.specs.declared.evidence.Entry.{Entry}
use Rattle.ledger.specs.Opening.{Opening}
use Rattle.ledger.specs.Ledger.{Ledger}
use Rattle.records.specs.declared.setup.KeptOpening.{KeptOpening}
use Rattle.records.specs.Opening.{opening_in}
use Rattle.slots.specs.Layout.{ledger_in, figures_of, posted_of, evidence_of}
use Rattle.book.specs.declared.book.Book.{Book}

-- an opening, figures, postings and evidence together
unfoldable pub book_in : KeptOpening → List ℕ → List Bool → List Entry → Book
book_in o f m x = record { opening = o; figures = f; posted = m; evidence = x }

unfoldable pub ledger_of : Book → Ledger
ledger_of b = ledger_in b.figures b.posted b.evidence

unfoldable pub opening_of_book : Book → Opening
opening_of_book b = opening_in b.opening

-- the book that keeps an opening and has a ledger's figures
unfoldable pub book_of : KeptOpening → Ledger → Book
book_of o L = book_in o (figures_of L) (posted_of L) (evidence_of L)
