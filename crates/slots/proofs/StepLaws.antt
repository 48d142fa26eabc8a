-- A call's outcome where it is refused and where it is accepted. Assumes nothing.
use Prim.Native.Nat.{ℕ}
use mathlib.Core.Path.{◌≡◌, refl, sym, ap, ◌∙◌}
use mathlib.Core.Bool.{Bool, true, false, cond}
use mathlib.Core.List.{List}
use native.Mathlib.Omega.{arith}
use borrow.Author.Tests.{eq-eqb, ne_eqb}
use Rattle.records.specs.declared.setup.KeptOpening.{KeptOpening}
use Rattle.std.specs.Prelude.{Result, Ok, Err}
use Rattle.source_evidence.specs.declared.evidence.Entry.{Entry}
use Rattle.ledger.specs.Opening.{Opening}
use Rattle.ledger.specs.Ledger.{Ledger}
use Rattle.ledger.specs.Call.{Call, Query}
use Rattle.ledger.specs.Causes.{refusal, query_refusal}
use Rattle.ledger.specs.Effects.{effect}
use Rattle.ledger.specs.Season as season
use Rattle.ledger.proofs.Steps.{step_refused, step_accepted}
use Rattle.records.specs.declared.refusal.Refusal.{Refusal}
use Rattle.records.specs.Opening.{opening_in}
use Rattle.records.specs.Refusals.{number_of, refusal_of}
use Rattle.records.specs.Answers.{called, queried}
use Rattle.records.proofs.RefusalLaws.{refusal_back, numbered}
use Rattle.slots.specs.Layout.{figures_of, posted_of, evidence_of, ledger_in}
use Rattle.slots.specs.Steps.{Reachable, Steps, query_answer}
use Rattle.slots.proofs.Reachable.{figures_known, posted_known, evidence_known}

-- a call that meets no cause is accepted, and one that a refusal refuses is not
module _ (O : Opening) (L : Ledger) (c : Call) where
  pub accepted_test : 0 ≡ refusal O L c → season.accepted O L c ≡ true
  unfolding season.accepted
  accepted_test e = eq-eqb (refusal O L c) 0 (sym e)

  refused_test : (r : Refusal) → number_of r ≡ refusal O L c → season.accepted O L c ≡ false
  unfolding season.accepted
  refused_test r found = ne_eqb (refusal O L c) 0 (λ e. let low = (numbered r).0 in omega (arith, low, found, e))

  -- an accepted call is done, and the next arrays are those of its effect
  pub steps_accepted : 0 ≡ refusal O L c → (f : List ℕ) (m : List Bool) (x : List Entry) → f ≡ figures_of (effect O L c) → m ≡ posted_of (effect O L c) → x ≡ evidence_of (effect O L c) → Steps O L c (Ok tt) f m x
  unfolding season.answer called
  steps_accepted e f m x of_figures of_posted of_evidence =
      record {
        answered = sym (ap (λ t. called (cond t season.done (season.refused (refusal O L c)))) (accepted_test e));
        figures = of_figures ∙ ap figures_of (sym same);
        posted = of_posted ∙ ap posted_of (sym same);
        evidence = of_evidence ∙ ap evidence_of (sym same);
      }
    where
      same : season.step O L c ≡ effect O L c
      same = step_accepted O L c (accepted_test e)

-- the refusal by a number
err_of : (r : Refusal) (number : ℕ) → number_of r ≡ number → ◌≡◌ {A = Result (Unit {0}) Refusal} (Err r) (Err (refusal_of number))
err_of r number found = ap Err (sym (refusal_back r) ∙ ap refusal_of found)

-- a refused call leaves the arrays as they were
pub steps_refused : (o : KeptOpening) (f : List ℕ) (m : List Bool) (x : List Entry) (c : Call) (r : Refusal) → number_of r ≡ refusal (opening_in o) (ledger_in f m x) c → Reachable o f m x → Steps (opening_in o) (ledger_in f m x) c (Err r) f m x
unfolding season.answer called
steps_refused o f m x c r found reach =
    record {
      answered = err_of r (refusal O L c) found ∙ sym (ap (λ t. called (cond t season.done (season.refused (refusal O L c)))) test);
      figures = figures_known o f m x reach ∙ ap figures_of (sym same);
      posted = posted_known o f m x reach ∙ ap posted_of (sym same);
      evidence = evidence_known o f m x reach ∙ ap evidence_of (sym same);
    }
  where
    O : Opening
    O = opening_in o

    L : Ledger
    L = ledger_in f m x

    test : season.accepted O L c ≡ false
    test = refused_test O L c r found

    same : season.step O L c ≡ L
    same = step_refused O L c test

-- an outcome beside the evidence of the next step, whatever stood for that before
pub beside_next_evidence : (O : Opening) (L : Ledger) (c : Call) (a : Result (Unit {0}) Refusal) (f : List ℕ) (m : List Bool) (x : List Entry) → Steps O L c a f m x → Steps O L c a f m (evidence_of (season.step O L c))
beside_next_evidence O L c a f m x s = record { answered = s.answered; figures = s.figures; posted = s.posted; evidence = refl }

-- a query's answer, refused and not
module _ (O : Opening) (L : Ledger) (q : Query) where
  pub query_refused : (r : Refusal) → number_of r ≡ query_refusal O L q → Err r ≡ query_answer O L q
  unfolding query_answer season.answer queried
  query_refused r found =
      ap Err (sym (refusal_back r) ∙ ap refusal_of found)
      ∙ sym (ap (λ t. queried (cond t (season.value (season.query_value O L q)) (season.refused (query_refusal O L q)))) (ne_eqb (query_refusal O L q) 0 (λ e. let low = (numbered r).0 in omega (arith, low, found, e))))

  pub query_answered : (v : ℕ) → 0 ≡ query_refusal O L q → v ≡ season.query_value O L q → Ok v ≡ query_answer O L q
  unfolding query_answer season.answer queried
  query_answered v none is = ap Ok is ∙ sym (ap (λ t. queried (cond t (season.value (season.query_value O L q)) (season.refused (query_refusal O L q)))) (eq-eqb (query_refusal O L q) 0 (sym none)))
