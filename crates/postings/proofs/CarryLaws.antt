-- What an accepted carry needs of the arrays, and what it leaves in them. Assumes nothing.
use Prim.Native.Nat.{ℕ, ◌+◌, ◌<◌}
use mathlib.Core.Path.{◌≡◌, refl, ◌∙◌}
use mathlib.Core.Bool.{Bool, true, false}
use mathlib.Core.List.{List, []}
use native.Mathlib.Nat.{le_trans}
use native.Mathlib.Omega.{arith}
use lib.ListN.{take, drop}
use Rattle.records.specs.declared.setup.KeptOpening.{KeptOpening}
use Rattle.std.specs.Prelude.{Ok}
use Rattle.source_evidence.specs.declared.evidence.Entry.{Entry}
use Rattle.tariff.specs.Sizes.{last_month}
use Rattle.ledger.specs.Opening.{Opening}
use Rattle.ledger.specs.Ledger.{Ledger, with_rights}
use Rattle.ledger.specs.Call.{carry}
use Rattle.ledger.specs.Causes.{refusal}
use Rattle.ledger.specs.Effects.{after_carry, effect}
use Rattle.ledger.proofs.PostingFacts.{CarryFacts, carry_facts}
use Rattle.records.specs.Opening.{opening_in}
use Rattle.slots.specs.Cells.{HasCell, stored_at}
use Rattle.slots.specs.Groups.{slots_of}
use Rattle.slots.specs.Layout.{figure_slots, posted_slots, figure_groups, posted_groups, evidence_groups, calendar_of, figures_of, posted_of, evidence_of, ledger_in, carried_slot, carry_posted_slot}
use Rattle.slots.specs.Months.{added_in_term, HasRoom}
use Rattle.slots.specs.Steps.{Reachable, Steps}
use Rattle.slots.proofs.CellLaws.{shown_is}
use Rattle.slots.proofs.StoreLaws.{slot_stored, single_posted}
use Rattle.slots.proofs.MonthLaws.{term_added}
use Rattle.slots.proofs.Reachable.{counts, figures_shown, posted_shown, evidence_known}
use Rattle.slots.proofs.Figures.{figure_fits, room_for_more}
use Rattle.slots.proofs.StepLaws.{accepted_test, steps_accepted}

module _ (o : KeptOpening) (f : List ℕ) (m : List Bool) (x : List Entry) (h p kw : ℕ) (r : Reachable o f m x) (unmet : 0 ≡ refusal (opening_in o) (ledger_in f m x) (carry h p kw)) where
  abbrev O : Opening
  O = opening_in o

  abbrev L : Ledger
  L = ledger_in f m x

  facts : CarryFacts O L h p kw
  facts = carry_facts O L h p kw (accepted_test O L (carry h p kw) unmet)

  holder : h < 8
  holder = le_trans facts.holder (counts o f m x r).0

  path : p < 16
  path = le_trans facts.path (counts o f m x r).3

  -- the slots are there, and those of the months have room for the kW
  pub carry_room : HasRoom f h p carried_slot (carried_slot + last_month) kw
  carry_room =
      record {
        holder = holder;
        place = path;
        in_row = omega arith;
        room = λ slot above below. room_for_more _ kw (figure_fits o f m x r h p slot facts.holder facts.path (omega arith)) facts.high;
      }

  pub carry_cell : HasCell posted_slots h p carry_posted_slot
  carry_cell = record { holder = holder; place = path; in_row = omega arith }

  -- the carried rights and the note of the posting are new, and nothing else
  carried : (f' : List ℕ) → f' ≡ added_in_term f h p carried_slot 0 kw → f' ≡ figures_of (effect O L (carry h p kw))
  unfolding figures_of figure_groups calendar_of slots_of effect with_rights after_carry
  carried f' e =
      e ∙ shown_is figure_slots 0 _ (added_in_term f h p carried_slot 0 kw) (calendar_of L) (omega arith)
      (term_added (take 3 (figure_groups L)) (drop 4 (figure_groups L)) carried_slot L.rights.carried f (calendar_of L) h p 0 kw refl (omega arith) holder path (figures_shown o f m x r))

  noted : (m' : List Bool) → m' ≡ stored_at posted_slots m h p carry_posted_slot true → m' ≡ posted_of (effect O L (carry h p kw))
  unfolding posted_of posted_groups slots_of effect with_rights after_carry
  noted m' e =
      e ∙ shown_is posted_slots false _ (stored_at posted_slots m h p carry_posted_slot true) [] (omega arith)
      (slot_stored false posted_slots carry_posted_slot 1 0 (take 1 (posted_groups L)) (drop 2 (posted_groups L)) refl (omega arith) (λ i j n. L.rights.posted i j) _ m [] h p 0 true holder path (omega arith) (single_posted h p L.rights.posted) (posted_shown o f m x r))

  filed : x ≡ evidence_of (effect O L (carry h p kw))
  unfolding evidence_of evidence_groups effect with_rights
  filed = evidence_known o f m x r

  pub carry_steps : (f' : List ℕ) (m' : List Bool) → f' ≡ added_in_term f h p carried_slot 0 kw → m' ≡ stored_at posted_slots m h p carry_posted_slot true → Steps O L (carry h p kw) (Ok tt) f' m' x
  carry_steps f' m' of_figures of_posted = steps_accepted O L (carry h p kw) unmet f' m' x (carried f' of_figures) (noted m' of_posted) filed
