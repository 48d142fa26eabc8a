-- Over every list of requests, the books and answers returned are those of the ledger. Assumes nothing.
use mathlib.Core.Path.{◌≡◌, refl, sym, ap, ap₂, ◌∙◌}
use mathlib.Core.Bool.{Bool, true, false, cond}
use mathlib.Core.List.{List, [], ◌∷◌, ◌++◌, map, append_assoc, append-nil}
use lib.Dec.{eqb}
use borrow.Author.Tests.{eqb-false}
use Rattle.ledger.specs.Opening.{Opening, legal, opening_refusal}
use Rattle.ledger.specs.Ledger.{Ledger}
use Rattle.ledger.specs.Call.{Call, Query}
use Rattle.ledger.specs.Causes.{refusal, query_refusal}
use Rattle.ledger.specs.Season as ledger
use Rattle.ledger.specs.Season.{Request, call, query, after_from, after, answers, step_request, season}
use Rattle.ledger.proofs.Steps.{after_more}
use Rattle.records.specs.Answers.{answer_in, of_call, of_query, called, queried}
use Rattle.records.proofs.ToldRefusals.{call_told, query_told}
use Rattle.opening.specs.Opened.{opening_answer, resulting_opening}
use Rattle.book.specs.Outcomes.{outcome_of, query_answer_in}
use Rattle.book.proofs.OpenedLaws.{opened_book}
use Rattle.book.specs.Opened.{opening_outcome}
use Rattle.book.specs.SeasonTheorem.{calls_of, book_after, answers_of, season_answers}
use Rattle.book.proofs.ReachableSteps.{book_at, at_answer, at_query, at_next}

-- what a call and a query answer in code's words, read back, is the ledger's answer
call_back : (o : Opening) (L : Ledger) (c : Call) → answer_in (of_call (called (ledger.answer o L (call c)))) ≡ ledger.answer o L (call c)
unfolding ledger.answer ledger.accepted answer_in of_call called
call_back o L c = go (eqb (refusal o L c) 0) refl
  where
    go : (t : Bool) → eqb (refusal o L c) 0 ≡ t → answer_in (of_call (called (cond t ledger.done (ledger.refused (refusal o L c))))) ≡ cond t ledger.done (ledger.refused (refusal o L c))
    go true e = refl
    go false e = ap ledger.refused (call_told o L c (eqb-false _ _ e))

query_back : (o : Opening) (L : Ledger) (q : Query) → answer_in (of_query (queried (ledger.answer o L (query q)))) ≡ ledger.answer o L (query q)
unfolding ledger.answer answer_in of_query queried
query_back o L q = go (eqb (query_refusal o L q) 0) refl
  where
    go : (t : Bool) → eqb (query_refusal o L q) 0 ≡ t → answer_in (of_query (queried (cond t (ledger.value (ledger.query_value o L q)) (ledger.refused (query_refusal o L q))))) ≡ cond t (ledger.value (ledger.query_value o L q)) (ledger.refused (query_refusal o L q))
    go true e = refl
    go false e = ap ledger.refused (query_told o L q (eqb-false _ _ e))

module _ (o : Opening) (e : legal o ≡ true) where
  -- what one call, and one query, is answered
  pub call_answered : (cs : List Call) (c : Call) → answer_in (of_call (outcome_of (book_at o e cs) c).answer) ≡ ledger.answer o (after o cs) (call c)
  call_answered cs c = ap (λ r. answer_in (of_call r)) (at_answer o e cs c) ∙ call_back o (after o cs) c

  pub query_answered : (cs : List Call) (q : Query) → answer_in (of_query (query_answer_in (book_at o e cs) q)) ≡ ledger.answer o (after o cs) (query q)
  query_answered cs q = ap (λ r. answer_in (of_query r)) (at_query o e cs q) ∙ query_back o (after o cs) q

  pub answers_from : (cs : List Call) (requests : List Request) → map answer_in (answers_of (book_at o e cs) requests) ≡ answers o (after o cs) requests
  unfolding answers_of answers step_request
  answers_from cs [] = refl
  answers_from cs (call c ∷ requests) =
      ap₂ ◌∷◌ (call_answered cs c)
      (ap (λ b. map answer_in (answers_of b requests)) (at_next o e cs c) ∙ answers_from (cs ++ (c ∷ [])) requests ∙ ap (λ L. answers o L requests) (after_more o cs c))
  answers_from cs (query q ∷ requests) =
      ap₂ ◌∷◌ (query_answered cs q) (answers_from cs requests)

  books-from : (cs : List Call) (requests : List Request) → book_after (book_at o e cs) requests ≡ book_at o e (cs ++ calls_of requests)
  unfolding book_after calls_of
  books-from cs [] = ap (λ l. book_at o e l) (sym (append-nil cs))
  books-from cs (call c ∷ requests) =
      ap (λ b. book_after b requests) (at_next o e cs c)
      ∙ books-from (cs ++ (c ∷ [])) requests
      ∙ ap (λ l. book_at o e l) (append_assoc cs (c ∷ []) (calls_of requests))
  books-from cs (query q ∷ requests) = books-from cs requests

  -- opening returns the book of no calls
  pub opened_at : (opening_outcome o).book ≡ book_at o e []
  unfolding after after_from
  opened_at = opened_book o e

  pub last_book_lem : (requests : List Request) → book_after (opening_outcome o).book requests ≡ book_at o e (calls_of requests)
  last_book_lem requests = ap (λ b. book_after b requests) opened_at ∙ books-from [] requests

  legal-answered : (requests : List Request) → map answer_in (season_answers o requests) ≡ season o requests
  unfolding season_answers season opening_outcome opening_answer resulting_opening answer_in of_call after after_from
  legal-answered requests = rw e (ap (λ l. ledger.done ∷ l) (answers_from [] requests))

-- an opening that is not legal is refused, and nothing follows
refused_answered : (o : Opening) → legal o ≡ false → (requests : List Request) → map answer_in (season_answers o requests) ≡ season o requests
unfolding season_answers season opening_outcome opening_answer opening_refusal answer_in of_call
refused_answered o e requests = rw e

pub season_answered : (o : Opening) (requests : List Request) → map answer_in (season_answers o requests) ≡ season o requests
season_answered o requests = go (legal o) refl
  where
    go : (t : Bool) → legal o ≡ t → map answer_in (season_answers o requests) ≡ season o requests
    go true e = legal-answered o e requests
    go false e = refused_answered o e requests
