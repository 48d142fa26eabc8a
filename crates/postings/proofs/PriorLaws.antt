-- What an accepted prior needs of the arrays, and what it leaves in them. Assumes nothing.
use Prim.Native.Nat.{ℕ, ◌-◌, ◌≤◌, ◌<◌}
use mathlib.Core.Path.{◌≡◌, refl, ap, ◌∙◌}
use mathlib.Core.Bool.{Bool, true, false}
use mathlib.Core.List.{List, []}
use native.Mathlib.Nat.{le_trans}
use native.Mathlib.Omega.{arith}
use lib.ListN.{take, drop}
use Rattle.records.specs.declared.setup.KeptOpening.{KeptOpening}
use Rattle.std.specs.Prelude.{Ok}
use Rattle.source_evidence.specs.declared.evidence.Entry.{Entry}
use Rattle.ledger.specs.Opening.{Opening}
use Rattle.ledger.specs.Ledger.{Ledger, with_priors}
use Rattle.ledger.specs.Call.{Call, prior}
use Rattle.ledger.specs.Causes.{refusal}
use Rattle.ledger.specs.Effects.{plus_at2, after_prior, effect}
use Rattle.ledger.proofs.PostingFacts.{PriorFacts, prior_facts}
use Rattle.records.specs.Opening.{opening_in}
use Rattle.slots.specs.Cells.{HasCell, stored_at, added_at}
use Rattle.slots.specs.Groups.{slots_of}
use Rattle.slots.specs.Layout.{figure_slots, posted_slots, figure_groups, posted_groups, evidence_groups, calendar_of, figures_of, posted_of, evidence_of, ledger_in, prior_allocated_slot, prior_remaining_slot, carried_slot, prior_posted_slot}
use Rattle.slots.specs.Months.{HasRoom}
use Rattle.slots.specs.Steps.{Reachable, Steps}
use Rattle.slots.proofs.CellLaws.{shown_is}
use Rattle.slots.proofs.StoreLaws.{slot_stored, slot_added, single_added, single_posted}
use Rattle.slots.proofs.RoomLaws.{room_next}
use Rattle.slots.proofs.Reachable.{counts, figures_shown, posted_shown, evidence_known}
use Rattle.slots.proofs.Figures.{figure_fits, room_for_more}
use Rattle.slots.proofs.StepLaws.{accepted_test, steps_accepted}

module _ (o : KeptOpening) (f : List ℕ) (m : List Bool) (x : List Entry) (h p a l : ℕ) (r : Reachable o f m x) (unmet : 0 ≡ refusal (opening_in o) (ledger_in f m x) (prior h p a l)) where
  abbrev O : Opening
  O = opening_in o

  abbrev L : Ledger
  L = ledger_in f m x

  abbrev call : Call
  call = prior h p a l

  facts : PriorFacts O L h p a l
  facts = prior_facts O L h p a l (accepted_test O L call unmet)

  holder : h < 8
  holder = le_trans facts.holder (counts o f m x r).0

  path : p < 16
  path = le_trans facts.path (counts o f m x r).3

  -- at most all of it went to Long Term
  pub prior_part : l ≤ a
  prior_part = facts.part

  -- the two slots are there, and have room for a
  pub prior_room : HasRoom f h p prior_allocated_slot carried_slot a
  prior_room =
      record {
        holder = holder;
        place = path;
        in_row = omega arith;
        room = λ slot above below. room_for_more _ a (figure_fits o f m x r h p slot facts.holder facts.path (omega arith)) facts.high;
      }

  -- and so has the second one once a was added in the first
  pub remaining_room : (f' : List ℕ) → f' ≡ added_at figure_slots f h p prior_allocated_slot a → HasRoom f' h p prior_remaining_slot carried_slot a
  remaining_room f' e = room_next f f' h p prior_allocated_slot carried_slot a a prior_remaining_slot prior_room (omega arith) (omega arith) e

  pub prior_cell : HasCell posted_slots h p prior_posted_slot
  prior_cell = record { holder = holder; place = path; in_row = omega arith }

  -- last year's allocation, what remains of it and the note of the posting are new, and nothing else
  allocated : (f₁ f₂ : List ℕ) → f₁ ≡ added_at figure_slots f h p prior_allocated_slot a → f₂ ≡ added_at figure_slots f₁ h p prior_remaining_slot (a - l) → f₂ ≡ figures_of (effect O L call)
  unfolding figures_of figure_groups calendar_of slots_of effect with_priors after_prior
  allocated f₁ f₂ e d =
      d ∙ ap (λ z. added_at figure_slots z h p prior_remaining_slot (a - l)) e
      ∙ shown_is figure_slots 0 _ (added_at figure_slots (added_at figure_slots f h p prior_allocated_slot a) h p prior_remaining_slot (a - l)) (calendar_of L) (omega arith)
      (slot_added figure_slots prior_remaining_slot 1 0 (take 2 (figure_groups (effect O L call))) (drop 3 (figure_groups L)) refl (omega arith) (λ i j n. L.priors.remaining i j) (λ i j n. plus_at2 h p (a - l) L.priors.remaining i j) _ (calendar_of L) h p 0 (a - l) holder path (omega arith) (single_added h p (a - l) L.priors.remaining)
      (slot_added figure_slots prior_allocated_slot 1 0 (take 1 (figure_groups L)) (drop 2 (figure_groups L)) refl (omega arith) (λ i j n. L.priors.allocated i j) (λ i j n. plus_at2 h p a L.priors.allocated i j) f (calendar_of L) h p 0 a holder path (omega arith) (single_added h p a L.priors.allocated) (figures_shown o f m x r)))

  noted : (m' : List Bool) → m' ≡ stored_at posted_slots m h p prior_posted_slot true → m' ≡ posted_of (effect O L call)
  unfolding posted_of posted_groups slots_of effect with_priors after_prior
  noted m' e =
      e ∙ shown_is posted_slots false _ (stored_at posted_slots m h p prior_posted_slot true) [] (omega arith)
      (slot_stored false posted_slots prior_posted_slot 1 0 (take 2 (posted_groups L)) (drop 3 (posted_groups L)) refl (omega arith) (λ i j n. L.priors.posted i j) _ m [] h p 0 true holder path (omega arith) (single_posted h p L.priors.posted) (posted_shown o f m x r))

  filed : x ≡ evidence_of (effect O L call)
  unfolding evidence_of evidence_groups effect with_priors
  filed = evidence_known o f m x r

  pub prior_steps : (f₁ f₂ : List ℕ) (m' : List Bool) → f₁ ≡ added_at figure_slots f h p prior_allocated_slot a → f₂ ≡ added_at figure_slots f₁ h p prior_remaining_slot (a - l) → m' ≡ stored_at posted_slots m h p prior_posted_slot true → Steps O L call (Ok tt) f₂ m' x
  prior_steps f₁ f₂ m' first second of_posted = steps_accepted O L call unmet f₂ m' x (allocated f₁ f₂ first second) (noted m' of_posted) filed
