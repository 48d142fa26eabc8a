-- What a method owes of the book whose arrays it lends to a call: that the outcome is the ledger's, and that the next arrays are a book's again. Assumes nothing.
use Prim.Native.Nat.{ℕ}
use mathlib.Core.Path.{◌≡◌, sym, ap, ◌∙◌, subst}
use mathlib.Core.Bool.{Bool, true, false}
use mathlib.Core.List.{List}
use Rattle.records.specs.declared.setup.KeptOpening.{KeptOpening}
use Rattle.std.specs.Prelude.{Result}
use Rattle.source_evidence.specs.declared.evidence.Entry.{Entry}
use Rattle.ledger.specs.Call.{Call}
use Rattle.records.specs.declared.refusal.Refusal.{Refusal}
use Rattle.records.specs.Opening.{opening_in}
use Rattle.slots.specs.Layout.{ledger_in}
use Rattle.slots.specs.Steps.{Reachable, Steps, StepsIf}
use Rattle.book.specs.declared.book.Book.{Book}
use Rattle.book.specs.Reading.{book_in}
use Rattle.book.specs.Outcomes.{outcome_of, refused_with}
use Rattle.book.specs.Reachable as book
use Rattle.book.proofs.ReachableSteps.{outcome_reachable}
use Rattle.book.proofs.OutcomeBooks.{beside, outcome_even, outcome_book, outcome_if}

-- calls lead to the book beside it too, since a refused one is as it was
even_reachable : (even : Bool) (b : Book) → book.Reachable b → (c : Call) → book.Reachable (outcome_even even b c).book
unfolding refused_with
even_reachable true b r c = outcome_reachable b r c
even_reachable false b r c = r

module _ (o : KeptOpening) (f : List ℕ) (m : List Bool) (x : List Entry) (c : Call) (a : Result (Unit {0}) Refusal) (f' : List ℕ) (m' : List Bool) (x' : List Entry) where
  -- the outcome, told of the book that stands in the arrays lent
  pub returned : {b : Book} → book_in o f m x ≡ b → Steps (opening_in o) (ledger_in f m x) c a f' m' x' → beside o f m x c a f' m' x' ≡ outcome_of b c
  returned e h = outcome_book o f m x c a f' m' x' h ∙ ap (λ b. outcome_of b c) e

  pub returned_if : {b : Book} → book_in o f m x ≡ b → (even : Bool) → Reachable o f m x → StepsIf even (opening_in o) (ledger_in f m x) c a f' m' x' → beside o f m x c a f' m' x' ≡ outcome_even even b c
  returned_if e even r h = outcome_if o f m x c a f' m' x' even r h ∙ ap (λ b. outcome_even even b c) e

  -- the arrays that a call leaves have the invariant again
  pub next_reachable : Reachable o f m x → Steps (opening_in o) (ledger_in f m x) c a f' m' x' → Reachable o f' m' x'
  unfolding book_in
  next_reachable r h = subst (λ y. book.Reachable y.book) (sym (outcome_book o f m x c a f' m' x' h)) (outcome_reachable (book_in o f m x) r c)

  pub next_reachable_if : (even : Bool) → Reachable o f m x → StepsIf even (opening_in o) (ledger_in f m x) c a f' m' x' → Reachable o f' m' x'
  unfolding book_in
  next_reachable_if even r h = subst (λ y. book.Reachable y.book) (sym (outcome_if o f m x c a f' m' x' even r h)) (even_reachable even (book_in o f m x) r c)
