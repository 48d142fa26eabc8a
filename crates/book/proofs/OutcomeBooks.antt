-- What a call returns in lent arrays, as the book that its method returns. Assumes nothing.
use Prim.Native.Nat.{ℕ}
use mathlib.Core.Path.{◌≡◌, refl, sym, ◌∙◌}
use mathlib.Core.Bool.{Bool, true, false, cond}
use mathlib.Core.List.{List}
use Rattle.records.specs.declared.setup.KeptOpening.{KeptOpening}
use Rattle.std.specs.Prelude.{Result}
use Rattle.source_evidence.specs.declared.evidence.Entry.{Entry}
use Rattle.ledger.specs.Call.{Call}
use Rattle.records.specs.declared.refusal.Refusal.{Refusal}
use Rattle.records.specs.declared.refusal.Refusal.TheVariants.{Unreadable}
use Rattle.records.specs.Opening.{opening_in}
use Rattle.slots.specs.Layout.{ledger_in}
use Rattle.slots.specs.Steps.{Reachable, Steps, StepsIf}
use Rattle.slots.proofs.Reachable.{figures_known, posted_known, evidence_known}
use Rattle.book.specs.declared.book.Book.{Book}
use Rattle.book.specs.declared.book.Outcome.{Outcome}
use Rattle.book.specs.Reading.{ledger_of, opening_of_book, book_in, book_of}
use Rattle.book.specs.Outcomes.{outcome_of, refused_with}

-- the outcome of a call whose lines stand in slices, which are even or are no lines
abbrev pub outcome_even : Bool → Book → Call → Outcome
outcome_even even b c = cond even (outcome_of b c) (refused_with b Unreadable)

module _ (o : KeptOpening) (f : List ℕ) (m : List Bool) (x : List Entry) (c : Call) (a : Result (Unit {0}) Refusal) (f' : List ℕ) (m' : List Bool) (x' : List Entry) where
  -- the answer beside the next arrays
  abbrev pub beside : Outcome
  beside = record { answer = a; book = book_in o f' m' x' }

  pub outcome_book : Steps (opening_in o) (ledger_in f m x) c a f' m' x' → beside ≡ outcome_of (book_in o f m x) c
  unfolding outcome_of book_in book_of ledger_of opening_of_book
  outcome_book h = λ i. record { answer = h.answered i; book = record { opening = o; figures = h.figures i; posted = h.posted i; evidence = h.evidence i } }

  -- a call whose lines stand in slices
  pub outcome_if : (even : Bool) → Reachable o f m x → StepsIf even (opening_in o) (ledger_in f m x) c a f' m' x' → beside ≡ outcome_even even (book_in o f m x) c
  unfolding refused_with book_in
  outcome_if even r h = go even refl
    where
      go : (t : Bool) → even ≡ t → beside ≡ outcome_even t (book_in o f m x) c
      go true e = outcome_book (h.equal e)
      go false e = let u = h.unequal e in λ i. record { answer = u.answered i; book = record { opening = o; figures = (u.figures ∙ sym (figures_known o f m x r)) i; posted = (u.posted ∙ sym (posted_known o f m x r)) i; evidence = (u.evidence ∙ sym (evidence_known o f m x r)) i } }
