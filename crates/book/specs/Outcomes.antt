-- What a call returns: the ledger's answer, and the book of the ledger's next step.
use Rattle.std.specs.Prelude.{ℕ, cond, List, Result, Err}
use Rattle.load_metric.specs.Columns.{blocks_of, same_lengths}
use Rattle.netting.specs.declared.netting.ClassColumns.{ClassColumns}
use Rattle.netting.specs.Netting.{class_lines_of, same_counts}
use Rattle.load.specs.declared.metered.MeteredColumns.{MeteredColumns}
use Rattle.ledger.specs.Call.{Call, Query, load, migrate}
use Rattle.ledger.specs.Season as season
use Rattle.records.specs.declared.refusal.Refusal.{Refusal}
use Rattle.records.specs.declared.refusal.Refusal.TheVariants.{Unreadable}
use Rattle.records.specs.Answers.{called, queried}
use Rattle.book.specs.declared.book.Book.{Book}
use Rattle.book.specs.declared.book.Outcome.{Outcome}
use Rattle.book.specs.Reading.{ledger_of, opening_of_book, book_of}

-- a refusal comes alone; the book is unchanged
unfoldable pub refused_with : Book → Refusal → Outcome
refused_with b refusal = record { answer = Err refusal; book = b }

unfoldable pub outcome_of : Book → Call → Outcome
outcome_of b c =
    record {
      answer = called (season.answer (opening_of_book b) (ledger_of b) (season.call c));
      book = book_of b.opening (season.step (opening_of_book b) (ledger_of b) c);
    }

-- what a query answers; the book stays as it is
unfoldable pub query_answer_in : Book → Query → Result ℕ Refusal
query_answer_in b q = queried (season.answer (opening_of_book b) (ledger_of b) (season.query q))

-- slices of unequal length are no blocks and no class lines: the call is refused as unreadable, and the book stays as it was
unfoldable pub outcome_of_blocks : Book → ℕ → ℕ → ℕ → ℕ → ℕ → List ℕ → List ℕ → List ℕ → Outcome
outcome_of_blocks b h s term contract n fs hs ks =
    cond (same_lengths fs hs ks) (outcome_of b (load h s term contract n (blocks_of fs hs ks))) (refused_with b Unreadable)

abbrev pub outcome_of_metered : Book → ℕ → ℕ → MeteredColumns → Outcome
outcome_of_metered b h s g = outcome_of_blocks b h s g.term g.contract g.n g.columns.firsts.now g.columns.hours.now g.columns.kws.now

unfoldable pub outcome_of_lines : Book → ℕ → ℕ → List ℕ → List ℕ → List ℕ → List ℕ → List ℕ → Outcome
outcome_of_lines b term sink froms tos classes customers watts =
    cond (same_counts froms tos classes customers watts) (outcome_of b (migrate term sink (class_lines_of froms tos classes customers watts)))
    (refused_with b Unreadable)

abbrev pub outcome_of_columns : Book → ℕ → ℕ → ClassColumns → Outcome
outcome_of_columns b term sink c = outcome_of_lines b term sink c.froms.now c.tos.now c.classes.now c.customers.now c.watts.now
