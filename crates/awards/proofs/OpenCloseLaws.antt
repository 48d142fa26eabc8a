-- The figures after a tier opens or closes: no nominations, and the tiers after the figures anew. Assumes nothing.
use Prim.Native.Nat.{ℕ}
use mathlib.Core.Path.{◌≡◌, refl, ap, ◌∙◌}
use mathlib.Core.Bool.{Bool, true, false, cond, ◌||◌}
use mathlib.Core.List.{List, ◌∷◌, ◌++◌}
use native.Mathlib.Omega.{arith}
use lib.ListN.{take, drop, set}
use lib.Dec.{eqb}
use borrow.Author.Tests.{ne_eqb}
use mir.Val.{bool_byte}
use Rattle.records.specs.declared.setup.KeptOpening.{KeptOpening}
use Rattle.std.specs.Prelude.{Ok}
use Rattle.source_evidence.specs.declared.evidence.Entry.{Entry}
use Rattle.tariff.specs.Sum.{when_true}
use Rattle.tariff.specs.Terms.{is_long_term_step}
use Rattle.ledger.specs.Opening.{Opening}
use Rattle.ledger.specs.Ledger.{Ledger, with_tiers}
use Rattle.ledger.specs.Call.{open_tier, close_tier}
use Rattle.ledger.specs.Causes.{refusal}
use Rattle.ledger.specs.Effects.{after_open, after_close, effect}
use Rattle.ledger.proofs.TierFacts.{open_facts, close_fact}
use Rattle.records.specs.declared.calendar.Calendar.{Calendar}
use Rattle.records.specs.Opening.{opening_in}
use Rattle.slots.specs.Cells.{rows, cleared_to, Shows}
use Rattle.slots.specs.Groups.{slot_group, slots_of, in_slot}
use Rattle.slots.specs.Layout.{figure_slots, figure_groups, posted_groups, evidence_groups, calendar_of, figures_of, posted_of, evidence_of, calendar_in, ledger_in, flag, nominated_slot, last_closed_at, current_tier_at, step_held_at}
use Rattle.slots.specs.Steps.{Reachable, Steps}
use Rattle.slots.proofs.CellLaws.{shown_is}
use Rattle.slots.proofs.Reachable.{sound, figures_shown, posted_known, evidence_known}
use Rattle.slots.proofs.StepLaws.{accepted_test, steps_accepted}
use Rattle.awards.proofs.ClearedGroups.{slot_cleared, shows_past}

-- a test as a number is its flag
byte_flag : (test : Bool) → bool_byte test ≡ flag test
unfolding flag when_true
byte_flag true = refl
byte_flag false = refl

module _ (o : KeptOpening) (f f' : List ℕ) (m : List Bool) (x : List Entry) (r : Reachable o f m x) (clear : f' ≡ cleared_to figure_slots nominated_slot f rows) where
  abbrev O : Opening
  O = opening_in o

  abbrev L : Ledger
  L = ledger_in f m x

  -- with no nominations in the open tier
  cleared : (new : ℕ → ℕ → ℕ → ℕ) → ((h p k : ℕ) → new h p k ≡ 0) → Shows figure_slots 0 (cleared_to figure_slots nominated_slot f rows) (in_slot 0 (take 5 (figure_groups L) ++ (slot_group 1 0 new ∷ drop 6 (figure_groups L)))) (calendar_of L)
  unfolding figure_groups slots_of
  cleared new none = slot_cleared (drop 6 (figure_groups L)) 0 (λ h p k. L.tiers.nominated h p L.tiers.current_tier) new none figure_slots nominated_slot (take 5 (figure_groups L)) f (calendar_of L) refl (omega arith) (figures_shown o f m x r)

  module _ (tier : ℕ) (unmet : 0 ≡ refusal O L (open_tier tier)) where
    -- a tier that opens has none: it was neither open nor closed, and the Long Term step was not held
    fresh : (h p : ℕ) → L.tiers.nominated h p tier ≡ 0
    fresh h p =
        let facts = open_facts O L tier (accepted_test O L (open_tier tier) unmet) in
        (sound o f m x r).fresh h p tier (λ e. omega (arith, e, facts.low, facts.idle)) facts.after_last_closed facts.not_opened_before

    -- the step as held: this is the one, or it was
    abbrev held : ℕ
    held = flag (is_long_term_step tier || L.tiers.step_held)

    opened : set (set (cleared_to figure_slots nominated_slot f rows) current_tier_at tier) step_held_at held ≡ figures_of (effect O L (open_tier tier))
    unfolding figures_of figure_groups calendar_of effect with_tiers after_open
    opened =
        shown_is figure_slots 0 _ (set (set (cleared_to figure_slots nominated_slot f rows) current_tier_at tier) step_held_at held) _ (omega arith)
        (shows_past figure_slots 0 held _ (set (cleared_to figure_slots nominated_slot f rows) current_tier_at tier) _ 2 (omega arith)
        (shows_past figure_slots 0 tier _ (cleared_to figure_slots nominated_slot f rows) (calendar_of L) 1 (omega arith) (cleared (λ h p k. L.tiers.nominated h p tier) (λ h p k. fresh h p))))

    noted : m ≡ posted_of (effect O L (open_tier tier))
    unfolding posted_of posted_groups effect with_tiers
    noted = posted_known o f m x r

    filed : x ≡ evidence_of (effect O L (open_tier tier))
    unfolding evidence_of evidence_groups effect with_tiers
    filed = evidence_known o f m x r

    pub open_steps : (held : Bool) → held ≡ (is_long_term_step tier || (calendar_in f).step_held) → (noted : ℕ) → noted ≡ bool_byte held → Steps O L (open_tier tier) (Ok tt) (set (set f' current_tier_at tier) step_held_at noted) m x
    unfolding ledger_in calendar_in flag
    open_steps held is n now =
        steps_accepted O L (open_tier tier) unmet (set (set f' current_tier_at tier) step_held_at n) m x
        ((λ i. set (set (clear i) current_tier_at tier) step_held_at ((now ∙ byte_flag held ∙ ap flag is) i)) ∙ opened)
        noted filed

  module _ (unmet : 0 ≡ refusal O L close_tier) where
    -- once the tier is closed no tier is open, and 0 has no nominations
    idle : (h p : ℕ) → cond (eqb 0 L.tiers.current_tier) (L.tiers.awards h p 0) (L.tiers.nominated h p 0) ≡ 0
    idle h p =
        let is_open = close_fact O L (accepted_test O L close_tier unmet) in
        ap (λ t. cond t (L.tiers.awards h p 0) (L.tiers.nominated h p 0)) (ne_eqb 0 L.tiers.current_tier (λ e. omega (arith, e))) ∙ (sound o f m x r).no_tier_zero h p

    -- the tier last closed from now on: the open one, but for the Long Term step the one before
    abbrev last : ℕ
    last = cond (is_long_term_step L.tiers.current_tier) L.tiers.last_closed L.tiers.current_tier

    closed : set (set (cleared_to figure_slots nominated_slot f rows) last_closed_at last) current_tier_at 0 ≡ figures_of (effect O L close_tier)
    unfolding figures_of figure_groups calendar_of effect with_tiers after_close
    closed =
        shown_is figure_slots 0 _ (set (set (cleared_to figure_slots nominated_slot f rows) last_closed_at last) current_tier_at 0) _ (omega arith)
        (shows_past figure_slots 0 0 _ (set (cleared_to figure_slots nominated_slot f rows) last_closed_at last) _ 1 (omega arith)
        (shows_past figure_slots 0 last _ (cleared_to figure_slots nominated_slot f rows) (calendar_of L) 0 (omega arith) (cleared (λ h p k. cond (eqb 0 L.tiers.current_tier) (L.tiers.awards h p 0) (L.tiers.nominated h p 0)) (λ h p k. idle h p))))

    pub close_steps : (n : ℕ) (c : Calendar) → c ≡ calendar_in f → n ≡ cond (is_long_term_step c.current_tier) c.last_closed c.current_tier → Steps O L close_tier (Ok tt) (set (set f' last_closed_at n) current_tier_at 0) m x
    unfolding ledger_in calendar_in posted_of posted_groups evidence_of evidence_groups effect with_tiers
    close_steps n c is closes =
        steps_accepted O L close_tier unmet (set (set f' last_closed_at n) current_tier_at 0) m x
        ((λ i. set (set (clear i) last_closed_at ((closes ∙ ap (λ t. cond (is_long_term_step t.current_tier) t.last_closed t.current_tier) is) i)) current_tier_at 0) ∙ closed) (posted_known o f m x r) (evidence_known o f m x r)
