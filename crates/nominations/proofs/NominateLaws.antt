-- What an accepted nomination needs of the figures, and what it leaves in them. Assumes nothing.
use Prim.Native.Nat.{ℕ, ◌+◌, ◌^◌, ◌≤◌, ◌<◌}
use mathlib.Core.Path.{◌≡◌, refl, ap, ◌∙◌}
use mathlib.Core.Bool.{Bool, ◌&&◌, and-true}
use mathlib.Core.List.{List}
use native.Mathlib.Nat.{le_trans}
use native.Mathlib.Omega.{arith}
use lib.ListN.{take, drop}
use lib.Dec.{eqb}
use borrow.Author.Tests.{eq-eqb}
use Rattle.records.specs.declared.setup.KeptOpening.{KeptOpening}
use Rattle.std.specs.Prelude.{Ok}
use Rattle.source_evidence.specs.declared.evidence.Entry.{Entry}
use Rattle.tariff.specs.Sum.{when_true}
use Rattle.ledger.specs.Opening.{Opening}
use Rattle.ledger.specs.Ledger.{Ledger, with_tiers}
use Rattle.ledger.specs.Call.{nominate}
use Rattle.ledger.specs.Causes.{refusal}
use Rattle.ledger.specs.Effects.{same2, same3, plus_at2, plus_at3, after_nominate, effect}
use Rattle.ledger.proofs.TierFacts.{NominateFacts, nominate_facts}
use Rattle.records.specs.Opening.{opening_in}
use Rattle.slots.specs.Cells.{HasCell, read_at, added_at}
use Rattle.slots.specs.Groups.{slots_of}
use Rattle.slots.specs.Layout.{nominated_slot, figure_slots, figure_groups, posted_groups, evidence_groups, calendar_of, figures_of, posted_of, evidence_of, ledger_in}
use Rattle.slots.specs.Steps.{Reachable, Steps}
use Rattle.slots.proofs.CellLaws.{shown_is}
use Rattle.slots.proofs.StoreLaws.{slot_added, single_added}
use Rattle.slots.proofs.Reachable.{counts, figures_shown, posted_known, evidence_known}
use Rattle.slots.proofs.Figures.{figure_fits, room_for_more}
use Rattle.slots.proofs.StepLaws.{accepted_test, steps_accepted}

module _ (o : KeptOpening) (f : List ℕ) (m : List Bool) (x : List Entry) (h p kw : ℕ) (r : Reachable o f m x) (unmet : 0 ≡ refusal (opening_in o) (ledger_in f m x) (nominate h p kw)) where
  abbrev O : Opening
  O = opening_in o

  abbrev L : Ledger
  L = ledger_in f m x

  facts : NominateFacts O L h p kw
  facts = nominate_facts O L h p kw (accepted_test O L (nominate h p kw) unmet)

  -- the slot is there, and has room for the kW
  pub nominate_room : HasCell figure_slots h p nominated_slot × (read_at figure_slots 0 f h p nominated_slot + kw < 2 ^ 64)
  nominate_room = (
    record { holder = le_trans facts.holder (counts o f m x r).0; place = le_trans facts.path (counts o f m x r).3; in_row = omega arith },
    room_for_more _ kw (figure_fits o f m x r h p nominated_slot facts.holder facts.path (omega arith)) facts.high,
  )

  -- kW more in one tier, as its slot has it
  more-nominated : (t y z n : ℕ) (v : ℕ → ℕ → ℕ → ℕ) → 0 ≤ n → n < 1 → plus_at3 h p t kw v y z t ≡ v y z t + when_true (same3 h p 0 y z n) kw
  unfolding plus_at3 plus_at2 same3 same2
  more-nominated t y z n v above below =
      ap (λ b. v y z t + when_true b kw) (ap (λ b. eqb y h && eqb z p && b) (eq-eqb t t refl) ∙ and-true (eqb y h && eqb z p))
      ∙ single_added h p kw (λ i j. v i j t) y z n above below

  -- the open tier's nominations are new, and nothing else
  nominated : (f' : List ℕ) → f' ≡ added_at figure_slots f h p nominated_slot kw → f' ≡ figures_of (effect O L (nominate h p kw))
  unfolding figures_of figure_groups calendar_of slots_of effect with_tiers after_nominate
  nominated f' e =
      e ∙ shown_is figure_slots 0 _ (added_at figure_slots f h p nominated_slot kw) (calendar_of L) (omega arith)
      (slot_added figure_slots nominated_slot 1 0 (take 5 (figure_groups L)) (drop 6 (figure_groups L)) refl (omega arith) (λ y z n. L.tiers.nominated y z L.tiers.current_tier) _ f (calendar_of L) h p 0 kw nominate_room.0.holder nominate_room.0.place (omega arith) (λ y z n above below. more-nominated L.tiers.current_tier y z n L.tiers.nominated above below) (figures_shown o f m x r))

  posted : m ≡ posted_of (effect O L (nominate h p kw))
  unfolding posted_of posted_groups effect with_tiers
  posted = posted_known o f m x r

  filed : x ≡ evidence_of (effect O L (nominate h p kw))
  unfolding evidence_of evidence_groups effect with_tiers
  filed = evidence_known o f m x r

  pub nominate_steps : (f' : List ℕ) → f' ≡ added_at figure_slots f h p nominated_slot kw → Steps O L (nominate h p kw) (Ok tt) f' m x
  nominate_steps f' of_figures = steps_accepted O L (nominate h p kw) unmet f' m x (nominated f' of_figures) posted filed
