-- Which arrays are a book's, and what a call leaves in them: the ledger's answer, and the arrays of the ledger's next step.
use Rattle.records.specs.declared.setup.KeptOpening.{KeptOpening}
use Rattle.std.specs.Prelude.{ℕ, ◌≡◌, Bool, true, false, List, Result, Err}
use Rattle.source_evidence.specs.declared.evidence.Entry.{Entry}
use Rattle.ledger.specs.Call.{Call, Query}
use Rattle.ledger.specs.Opening.{Opening, legal}
use Rattle.ledger.specs.Ledger.{Ledger}
use Rattle.ledger.specs.Season as season
use Rattle.records.specs.declared.refusal.Refusal.{Refusal}
use Rattle.records.specs.declared.refusal.Refusal.TheVariants.{Unreadable}
use Rattle.records.specs.Opening.{opening_in, kept_opening}
use Rattle.records.specs.Answers.{called, queried}
use Rattle.slots.specs.Layout.{figures_of, posted_of, evidence_of, ledger_in}

-- 01, The book: arrays are a book's where a legal opening and a list of calls lead to them
pub record Reachable (o : KeptOpening) (f : List ℕ) (m : List Bool) (x : List Entry) : Type 0 where
  pub opening : Opening
  pub calls : List Call
  pub is_legal : legal opening ≡ true
  pub of_opening : o ≡ kept_opening opening
  pub of_figures : f ≡ figures_of (season.after opening calls)
  pub of_posted : m ≡ posted_of (season.after opening calls)
  pub of_evidence : x ≡ evidence_of (season.after opening calls)

-- some of a book's arrays, beside others that are not lent: the figures alone, with the opening, or with the opening and the postings
pub record ReachableTier (f : List ℕ) : Type 0 where
  pub opening : KeptOpening
  pub posted : List Bool
  pub evidence : List Entry
  pub reachable : Reachable opening f posted evidence

pub record ReachableFigures (o : KeptOpening) (f : List ℕ) : Type 0 where
  pub posted : List Bool
  pub evidence : List Entry
  pub reachable : Reachable o f posted evidence

pub record ReachablePostings (o : KeptOpening) (f : List ℕ) (m : List Bool) : Type 0 where
  pub evidence : List Entry
  pub reachable : Reachable o f m evidence

-- a call's outcome: the ledger's answer, and the arrays of the ledger's next step
pub record Steps (O : Opening) (L : Ledger) (c : Call) (answer : Result (Unit {0}) Refusal) (f : List ℕ) (m : List Bool) (x : List Entry) : Type 0 where
  pub answered : answer ≡ called (season.answer O L (season.call c))
  pub figures : f ≡ figures_of (season.step O L c)
  pub posted : m ≡ posted_of (season.step O L c)
  pub evidence : x ≡ evidence_of (season.step O L c)

-- a refusal as unreadable, beside the arrays as they were
pub record StaysUnread (L : Ledger) (answer : Result (Unit {0}) Refusal) (f : List ℕ) (m : List Bool) (x : List Entry) : Type 0 where
  pub answered : answer ≡ Err Unreadable
  pub figures : f ≡ figures_of L
  pub posted : m ≡ posted_of L
  pub evidence : x ≡ evidence_of L

-- a call whose lines stand in slices: slices of unequal length are no lines, and unreadable
pub record StepsIf (same_lengths : Bool) (O : Opening) (L : Ledger) (c : Call) (answer : Result (Unit {0}) Refusal) (f : List ℕ) (m : List Bool) (x : List Entry) : Type 0 where
  pub equal : same_lengths ≡ true → Steps O L c answer f m x
  pub unequal : same_lengths ≡ false → StaysUnread L answer f m x

-- a query's answer
unfoldable pub query_answer : Opening → Ledger → Query → Result ℕ Refusal
query_answer O L q = queried (season.answer O L (season.query q))

-- Calls are lent some of a book's arrays. What they promise, they promise of the opening and the ledger that stand in all of them, whatever stands
-- in those that are not lent.

-- what holds where the opening and the figures are lent
abbrev pub InFigures : (o : KeptOpening) (f : List ℕ) → (Opening → Ledger → Type 0) → Type 0
InFigures o f P = (m : List Bool) (x : List Entry) → Reachable o f m x → P (opening_in o) (ledger_in f m x)

-- and where the postings are lent too
abbrev pub InPostings : (o : KeptOpening) (f : List ℕ) (m : List Bool) → (Opening → Ledger → Type 0) → Type 0
InPostings o f m P = (x : List Entry) → Reachable o f m x → P (opening_in o) (ledger_in f m x)

-- the outcome of a call that is lent the figures alone, the opening and the figures, or the postings too; the other arrays stay
abbrev pub TierStep : (f : List ℕ) → Call → Result (Unit {0}) Refusal → List ℕ → Type 0
TierStep f c answer f' = (o : KeptOpening) (m : List Bool) (x : List Entry) → Reachable o f m x → Steps (opening_in o) (ledger_in f m x) c answer f' m x

abbrev pub FiguresStep : (o : KeptOpening) (f : List ℕ) → Call → Result (Unit {0}) Refusal → List ℕ → Type 0
FiguresStep o f c answer f' = (m : List Bool) (x : List Entry) → Reachable o f m x → Steps (opening_in o) (ledger_in f m x) c answer f' m x

abbrev pub PostingsStep : (o : KeptOpening) (f : List ℕ) (m : List Bool) → Call → Result (Unit {0}) Refusal → List ℕ → List Bool → Type 0
PostingsStep o f m c answer f' m' = (x : List Entry) → Reachable o f m x → Steps (opening_in o) (ledger_in f m x) c answer f' m' x

-- a call that changes the evidence too, which is not lent: that of the next step stands beside the lent arrays
abbrev pub EvidenceStep : (o : KeptOpening) (f : List ℕ) (m : List Bool) → Call → Result (Unit {0}) Refusal → List ℕ → List Bool → Type 0
EvidenceStep o f m c answer f' m' = (x : List Entry) → Reachable o f m x → Steps (opening_in o) (ledger_in f m x) c answer f' m' (evidence_of (season.step (opening_in o) (ledger_in f m x) c))

-- the same of a call whose lines stand in slices
abbrev pub FiguresStepIf : Bool → (o : KeptOpening) (f : List ℕ) → Call → Result (Unit {0}) Refusal → List ℕ → Type 0
FiguresStepIf same_lengths o f c answer f' = (m : List Bool) (x : List Entry) → Reachable o f m x → StepsIf same_lengths (opening_in o) (ledger_in f m x) c answer f' m x

abbrev pub PostingsStepIf : Bool → (o : KeptOpening) (f : List ℕ) (m : List Bool) → Call → Result (Unit {0}) Refusal → List ℕ → List Bool → Type 0
PostingsStepIf same_lengths o f m c answer f' m' = (x : List Entry) → Reachable o f m x → StepsIf same_lengths (opening_in o) (ledger_in f m x) c answer f' m' x
