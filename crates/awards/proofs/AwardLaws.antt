-- Cause 14 as code finds it, what an accepted award needs of the figures, and what it leaves in them. Assumes nothing.
use Prim.Native.Nat.{ℕ, ◌+◌, ◌^◌, ◌≤◌, ◌<◌}
use mathlib.Core.Path.{◌≡◌, refl, sym, ap, ◌∙◌}
use mathlib.Core.Bool.{Bool, cond}
use mathlib.Core.List.{List}
use native.Mathlib.Nat.{le_trans, add-zero}
use native.Mathlib.Omega.{arith}
use lib.ListN.{take, drop}
use lib.Dec.{ltb}
use borrow.Author.Tests.{eq-eqb}
use Rattle.records.specs.declared.setup.KeptOpening.{KeptOpening}
use Rattle.std.specs.Prelude.{Ok}
use Rattle.source_evidence.specs.declared.evidence.Entry.{Entry}
use Rattle.tariff.specs.Sum.{when_true}
use Rattle.tariff.specs.Sizes.{last_month, long_term_step}
use Rattle.tariff.specs.Terms.{term_of, entering_kw}
use Rattle.tariff.proofs.Entering.{entering_le}
use Rattle.ledger.specs.Opening.{Opening}
use Rattle.ledger.specs.Ledger.{Ledger, with_rights, with_tiers}
use Rattle.ledger.specs.Call.{award}
use Rattle.ledger.specs.Causes.{exceeds_nominated, refusal}
use Rattle.ledger.specs.Effects.{same3, plus_at3, awards_after, holdings_after, effect}
use Rattle.ledger.proofs.TierFacts.{AwardFacts, award_facts}
use Rattle.records.specs.Opening.{opening_in}
use Rattle.slots.specs.Cells.{HasCell, read_at, added_at}
use Rattle.slots.specs.Groups.{slots_of}
use Rattle.slots.specs.Layout.{figure_slots, figure_groups, posted_groups, evidence_groups, calendar_of, figures_of, posted_of, evidence_of, current_tier_in, figure_in, ledger_in, awarded_slot, nominated_slot, awards_slot, tier_slots, ownership_slot}
use Rattle.slots.specs.Months.{added_in_term, HasRoom}
use Rattle.slots.specs.Steps.{Reachable, Steps}
use Rattle.slots.proofs.CellLaws.{shown_is}
use Rattle.slots.proofs.StoreLaws.{slot_added}
use Rattle.slots.proofs.RoomLaws.{room_now}
use Rattle.slots.proofs.MonthLaws.{term_added}
use Rattle.slots.proofs.Reachable.{counts, sound, figures_shown, posted_known, evidence_known}
use Rattle.slots.proofs.Figures.{from_zero}
use Rattle.slots.proofs.StepLaws.{accepted_test, steps_accepted}
use Rattle.awards.proofs.RowRoom.{row_room, room_after_term}

-- the nominations of the open tier stand by themselves
nominated_now : (f : List ℕ) (m : List Bool) (x : List Entry) (h p : ℕ) → (ledger_in f m x).tiers.nominated h p (current_tier_in f) ≡ figure_in f nominated_slot 1 0 h p 0
unfolding ledger_in
nominated_now f m x h p = ap (λ t. cond t (figure_in f nominated_slot 1 0 h p 0) (figure_in f awards_slot tier_slots 0 h p (current_tier_in f))) (eq-eqb (current_tier_in f) (current_tier_in f) refl)

-- cause 14
pub nominated_test : (f : List ℕ) (m : List Bool) (x : List Entry) (h p kw tier nominated awards : ℕ) → tier ≡ current_tier_in f → tier ≤ long_term_step → HasRoom f h p nominated_slot ownership_slot kw → nominated ≡ read_at figure_slots 0 f h p nominated_slot → awards ≡ read_at figure_slots 0 f h p (awards_slot + tier) → ltb nominated (awards + kw) ≡ exceeds_nominated (ledger_in f m x) (current_tier_in f) h p kw
unfolding exceeds_nominated ledger_in
nominated_test f m x h p kw tier nominated awards now last k n a = λ i. ltb (nominations i) (granted i + kw)
  where
    nominations : nominated ≡ (ledger_in f m x).tiers.nominated h p (current_tier_in f)
    nominations = n ∙ from_zero f nominated_slot 1 h p 0 k.holder k.place (omega arith) ∙ sym (nominated_now f m x h p)

    granted : awards ≡ figure_in f awards_slot tier_slots 0 h p (current_tier_in f)
    granted = a ∙ from_zero f awards_slot tier_slots h p tier k.holder k.place (omega arith) ∙ ap (figure_in f awards_slot tier_slots 0 h p) now

-- the open tier is one of nine, or the Long Term step
pub tier_within : (o : KeptOpening) (f : List ℕ) (m : List Bool) (x : List Entry) (tier : ℕ) → Reachable o f m x → tier ≡ current_tier_in f → tier ≤ long_term_step
unfolding ledger_in
tier_within o f m x tier r now = let last = (sound o f m x r).open_last in omega arith

module _ (o : KeptOpening) (f : List ℕ) (m : List Bool) (x : List Entry) (h p kw : ℕ) (r : Reachable o f m x) (unmet : 0 ≡ refusal (opening_in o) (ledger_in f m x) (award h p kw)) where
  abbrev O : Opening
  O = opening_in o

  abbrev L : Ledger
  L = ledger_in f m x

  facts : AwardFacts O L h p kw
  facts = award_facts O L h p kw (accepted_test O L (award h p kw) unmet)

  holder : h < 8
  holder = le_trans facts.holder (counts o f m x r).0

  path : p < 16
  path = le_trans facts.path (counts o f m x r).3

  -- the slots of the months have room for the kW that enter them ..
  pub months_room : (tier v : ℕ) → v ≡ entering_kw tier kw → HasRoom f h p awarded_slot (awarded_slot + last_month) v
  months_room tier v e =
      let entering = entering_le tier kw in
      let high = facts.high in
      row_room o f m x h p v awarded_slot (awarded_slot + last_month) r facts.holder facts.path (omega arith) (omega arith)

  -- .. and after them that of the tier
  pub tier_room : (tier term v : ℕ) (f' : List ℕ) → tier ≡ current_tier_in f → f' ≡ added_in_term f h p awarded_slot term v → HasCell figure_slots h p (awards_slot + tier) × (read_at figure_slots 0 f' h p (awards_slot + tier) + kw < 2 ^ 64)
  tier_room tier term v f' now e =
      let last = tier_within o f m x tier r now in
      room_now f' h p (awards_slot + tier) ownership_slot kw kw
      (room_after_term f f' h p awarded_slot ownership_slot term kw v (awards_slot + tier) (row_room o f m x h p kw awarded_slot ownership_slot r facts.holder facts.path facts.high (omega arith)) (omega arith) (omega arith) e) (omega arith) (omega arith)

  -- the awarded rights and the tier's awards are new, and nothing else
  abbrev entering : ℕ
  entering = entering_kw L.tiers.current_tier kw

  abbrev months : Ledger
  months = with_rights L (holdings_after L.rights L.tiers.current_tier h p kw)

  awarded : added_at figure_slots (added_in_term f h p awarded_slot (term_of L.tiers.current_tier) entering) h p (awards_slot + L.tiers.current_tier) kw ≡ figures_of (effect O L (award h p kw))
  unfolding figures_of figure_groups calendar_of slots_of effect with_rights with_tiers holdings_after awards_after plus_at3
  awarded =
      shown_is figure_slots 0 _ (added_at figure_slots (added_in_term f h p awarded_slot (term_of L.tiers.current_tier) entering) h p (awards_slot + L.tiers.current_tier) kw) (calendar_of L) (omega arith)
      (slot_added figure_slots awards_slot tier_slots 0 (take 6 (figure_groups months)) (drop 7 (figure_groups months)) refl (omega arith) L.tiers.awards (plus_at3 h p L.tiers.current_tier kw L.tiers.awards) _ (calendar_of L) h p L.tiers.current_tier kw holder path (let last = (sound o f m x r).open_last in omega arith)
      (λ i j n low high. ap (λ k. L.tiers.awards i j n + when_true (same3 h p k i j n) kw) (sym (add-zero L.tiers.current_tier)))
      (term_added (take 4 (figure_groups L)) (drop 5 (figure_groups L)) awarded_slot L.rights.awarded f (calendar_of L) h p (term_of L.tiers.current_tier) entering refl (omega arith) holder path (figures_shown o f m x r)))

  noted : m ≡ posted_of (effect O L (award h p kw))
  unfolding posted_of posted_groups effect with_rights with_tiers holdings_after
  noted = posted_known o f m x r

  filed : x ≡ evidence_of (effect O L (award h p kw))
  unfolding evidence_of evidence_groups effect with_rights with_tiers
  filed = evidence_known o f m x r

  pub award_steps : (tier term v : ℕ) (f' f'' : List ℕ) → tier ≡ current_tier_in f → term ≡ term_of tier → v ≡ entering_kw tier kw → f' ≡ added_in_term f h p awarded_slot term v → f'' ≡ added_at figure_slots f' h p (awards_slot + tier) kw → Steps O L (award h p kw) (Ok tt) f'' m x
  unfolding ledger_in
  award_steps tier term v f' f'' now t enters one two =
      steps_accepted O L (award h p kw) unmet f'' m x
      (two ∙ (λ i. added_at figure_slots ((one ∙ (λ j. added_in_term f h p awarded_slot ((t ∙ ap term_of now) j) ((enters ∙ ap (λ n. entering_kw n kw) now) j))) i) h p (awards_slot + now i) kw) ∙ awarded)
      noted filed
