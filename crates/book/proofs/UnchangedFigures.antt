-- The book's figures are those of the ledger without 19: part 2 of the season theorem, and the ledgers after a list, which are the same. Assumes nothing.
use mathlib.Core.Path.{◌≡◌, ap, ◌∙◌}
use mathlib.Core.Bool.{true}
use mathlib.Core.List.{List}
use Rattle.ledger.specs.Opening.{Opening, legal}
use Rattle.ledger.specs.Ledger.{empty_ledger}
use Rattle.ledger.specs.Limits.{tier_limit}
use Rattle.ledger.specs.Season.{Request, net}
use Rattle.ledger.specs.NumberSplit.{after_without}
use Rattle.ledger.proofs.NumberSplit.{number_split}
use Rattle.book.specs.Reading.{ledger_of}
use Rattle.book.specs.Opened.{opening_outcome}
use Rattle.book.specs.SeasonTheorem.{calls_of, book_after}
use Rattle.book.specs.UnchangedFigures.{UnchangedFigures}
use Rattle.book.proofs.SeasonTheorem.{season_theorem}

figures : (o : Opening) (requests : List Request) → legal o ≡ true → ledger_of (book_after (opening_outcome o).book requests) ≡ after_without o empty_ledger (calls_of requests)
figures o requests e = (season_theorem.kept o requests e).figures ∙ number_split.same_ledger o (calls_of requests)

pub unchanged_figures : UnchangedFigures
unchanged_figures =
    record {
      figures = figures;
      nets = λ o requests e p m. ap (λ L. net o L p m) (figures o requests e);
      limits = λ o requests e tier h b. ap (λ L. tier_limit o L tier h b) (figures o requests e);
    }
