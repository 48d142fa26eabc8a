-- What number 19 leaves as it was of the book (02, 2/14): its figures, and with them its sums and limits, are those of the ledger that has every cause but 19.
use Rattle.std.specs.Prelude.{ℕ, ◌≡◌, true, List}
use Rattle.ledger.specs.Opening.{Opening, legal}
use Rattle.ledger.specs.Ledger.{Ledger, empty_ledger}
use Rattle.ledger.specs.Limits.{tier_limit}
use Rattle.ledger.specs.Season.{Request, net}
use Rattle.ledger.specs.NumberSplit.{after_without}
use Rattle.book.specs.declared.book.Book.{Book}
use Rattle.book.specs.Reading.{ledger_of}
use Rattle.book.specs.Opened.{opening_outcome}
use Rattle.book.specs.SeasonTheorem.{calls_of, book_after}

-- the last of the books returned, and the ledger without 19 after the same calls
abbrev last_book : Opening → List Request → Book
last_book o requests = book_after (opening_outcome o).book requests

abbrev ledger_without : Opening → List Request → Ledger
ledger_without o requests = after_without o empty_ledger (calls_of requests)

pub record UnchangedFigures : Type 0 where
  pub figures : (o : Opening) (requests : List Request) → legal o ≡ true → ledger_of (last_book o requests) ≡ ledger_without o requests
  pub nets : (o : Opening) (requests : List Request) → legal o ≡ true → (p m : ℕ) → net o (ledger_of (last_book o requests)) p m ≡ net o (ledger_without o requests) p m
  pub limits : (o : Opening) (requests : List Request) → legal o ≡ true → (tier h b : ℕ) → tier_limit o (ledger_of (last_book o requests)) tier h b ≡ tier_limit o (ledger_without o requests) tier h b
