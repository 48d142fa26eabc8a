-- What a reachable book answers is the ledger's answer, and what a call returns is a reachable book. Assumes nothing.
use mathlib.Core.Path.{◌≡◌, refl, sym, ap, ◌∙◌, subst}
use mathlib.Core.Bool.{true}
use mathlib.Core.List.{List, [], ◌∷◌, ◌++◌}
use Rattle.ledger.specs.Opening.{Opening, legal}
use Rattle.ledger.specs.Call.{Call, Query}
use Rattle.ledger.specs.Season.{call, query, answer, step, after}
use Rattle.ledger.proofs.Steps.{after_more}
use Rattle.records.specs.Opening.{kept_opening}
use Rattle.records.specs.Answers.{called, queried}
use Rattle.slots.proofs.Reachable.{ledger_known, opening_known}
use Rattle.book.specs.declared.book.Book.{Book}
use Rattle.book.specs.Reading.{ledger_of, opening_of_book, book_in, book_of}
use Rattle.book.specs.Outcomes.{outcome_of, query_answer_in}
use Rattle.book.specs.Reachable.{Reachable}

module _ (o : Opening) (e : legal o ≡ true) (cs : List Call) where
  -- the book of a legal opening and a list of calls
  abbrev pub book_at : Book
  book_at = book_of (kept_opening o) (after o cs)

  pub at_reachable : Reachable book_at
  unfolding book_of book_in
  at_reachable = record { opening = o; calls = cs; is_legal = e; of_opening = refl; of_figures = refl; of_posted = refl; of_evidence = refl }

  -- it keeps its opening and has the ledger of its calls
  pub at_opening : opening_of_book book_at ≡ o
  unfolding opening_of_book book_of book_in at_reachable
  at_opening = opening_known _ _ _ _ at_reachable

  pub at_ledger : ledger_of book_at ≡ after o cs
  unfolding ledger_of book_of book_in at_reachable
  at_ledger = ledger_known _ _ _ _ at_reachable

  pub at_answer : (c : Call) → (outcome_of book_at c).answer ≡ called (answer o (after o cs) (call c))
  unfolding outcome_of
  at_answer c = λ i. called (answer (at_opening i) (at_ledger i) (call c))

  pub at_query : (q : Query) → query_answer_in book_at q ≡ queried (answer o (after o cs) (query q))
  unfolding query_answer_in
  at_query q = λ i. queried (answer (at_opening i) (at_ledger i) (query q))

  -- a call returns the book of one call more
  pub at_next : (c : Call) → (outcome_of book_at c).book ≡ book_of (kept_opening o) (after o (cs ++ (c ∷ [])))
  unfolding outcome_of book_of book_in
  at_next c = ap (book_of (kept_opening o)) ((λ i. step (at_opening i) (at_ledger i) c) ∙ sym (after_more o cs c))

module _ (b : Book) (r : Reachable b) where
  -- a reachable book is that of its opening and calls
  pub reachable_book : b ≡ book_at r.opening r.is_legal r.calls
  unfolding book_of book_in
  reachable_book = λ i. record { opening = r.of_opening i; figures = r.of_figures i; posted = r.of_posted i; evidence = r.of_evidence i }

  -- so what a call returns is reachable again, by one call more
  pub outcome_reachable : (c : Call) → Reachable (outcome_of b c).book
  outcome_reachable c = subst Reachable (sym (ap (λ x. (outcome_of x c).book) reachable_book ∙ at_next r.opening r.is_legal r.calls c)) (at_reachable r.opening r.is_legal (r.calls ++ (c ∷ [])))
