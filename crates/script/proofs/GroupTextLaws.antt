-- What a book answers to groups is what the ledger answers. Assumes nothing.
use mathlib.Core.Path.{◌≡◌, refl, ap, ap₂, ◌∙◌}
use mathlib.Core.Bool.{true}
use mathlib.Core.List.{List, [], ◌∷◌, ◌++◌, map}
use Rattle.ledger.specs.Opening.{Opening, legal}
use Rattle.ledger.specs.Call.{Call}
use Rattle.ledger.specs.Season as ledger
use Rattle.ledger.specs.Season.{call, query, after, step_request}
use Rattle.ledger.proofs.Steps.{after_more}
use Rattle.book.specs.declared.book.Book.{Book}
use Rattle.records.specs.Answers.{answer_in}
use Rattle.book.specs.Reachable.{Reachable}
use Rattle.book.proofs.ReachableSteps.{book_at, at_next, outcome_reachable}
use Rattle.book.proofs.SeasonAnswers.{call_answered, query_answered}
use Rattle.groups.specs.Outcome.{outcome_of_group}
use Rattle.groups.specs.Groups.{Group, unreadable_group, request}
use Rattle.script.specs.Answers.{answers_to}
use Rattle.script.specs.GroupTexts.{answers_of}

-- the book passed on is reachable
pub group_reachable : (b : Book) → Reachable b → (g : Group) → Reachable (outcome_of_group b g).book
unfolding outcome_of_group
group_reachable b r unreadable_group = r
group_reachable b r (request (call c)) = outcome_reachable b r c
group_reachable b r (request (query q)) = r

module _ (o : Opening) (e : legal o ≡ true) where
  pub groups_answered : (cs : List Call) (groups : List Group) → map answer_in (answers_of (book_at o e cs) groups) ≡ answers_to o (after o cs) groups
  unfolding answers_of outcome_of_group answers_to answer_in step_request
  groups_answered cs [] = refl
  groups_answered cs (unreadable_group ∷ groups) = ap (λ l. ledger.refused 1 ∷ l) (groups_answered cs groups)
  groups_answered cs (request (call c) ∷ groups) =
      ap₂ ◌∷◌ (call_answered o e cs c)
      (ap (λ b. map answer_in (answers_of b groups)) (at_next o e cs c) ∙ groups_answered (cs ++ (c ∷ [])) groups ∙ ap (λ L. answers_to o L groups) (after_more o cs c))
  groups_answered cs (request (query q) ∷ groups) = ap₂ ◌∷◌ (query_answered o e cs q) (groups_answered cs groups)
