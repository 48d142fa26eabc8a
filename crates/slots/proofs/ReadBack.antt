-- Out of the arrays of a ledger that calls lead to comes that ledger. Assumes nothing.
use Prim.Native.Nat.{ℕ, suc, ◌+◌, ◌-◌, ◌≤◌}
use mathlib.Core.Path.{◌≡◌, refl, sym, ap, ◌∙◌}
use mathlib.Core.Bool.{Bool, true, false, cond}
use mathlib.Core.List.{List, [], ◌∷◌, ◌++◌}
use mathlib.Core.Logic.{◌⊎◌, inl, inr}
use native.Mathlib.Omega.{arith}
use lib.ListN.{take, drop}
use lib.Dec.{eqb}
use borrow.Author.Tests.{eqb-true, eqb-false}
use Rattle.tariff.proofs.Tests.{decided, both_ways}
use Rattle.tariff.specs.Sum.{when_true}
use Rattle.source_evidence.specs.Evidence.{empty_entry}
use Rattle.tariff.specs.Sizes.{last_month, terms, evidence_kinds}
use Rattle.ledger.specs.Ledger.{Ledger}
use Rattle.slots.specs.Cells.{read_at, array_of}
use Rattle.slots.specs.Groups.{SlotGroup, slot_group, slots_of, in_slot, in_group, figure_from}
use Rattle.slots.specs.Layout.{figure_slots, posted_slots, evidence_slots, figure_groups, posted_groups, evidence_groups, calendar_of, figures_of, posted_of, evidence_of, last_closed_in, current_tier_in, step_held_in, flag, figure_in, is_posted_in, ledger_in, load_slot, prior_allocated_slot, prior_remaining_slot, carried_slot, awarded_slot, nominated_slot, awards_slot, tier_slots, load_posted_slot, carry_posted_slot, prior_posted_slot, evidence_posted_slot}
use Rattle.slots.proofs.CellLaws.{array_shows}
use Rattle.slots.proofs.GroupLaws.{group_facts, in_group_lem, group_slot}
use Rattle.slots.proofs.Confined.{Confined}

-- what is read of a group in the array of groups is the group's figure, where that has nothing without a slot
pub group_back : {A : Type 0} (none : A) (width : ℕ) (rest : List A) (before after : List (SlotGroup A)) (from count low : ℕ) (figure : ℕ → ℕ → ℕ → A) → slots_of before ≡ from → from + count ≤ width → (h p k : ℕ) → (in_group count low h p k ≡ false → figure h p k ≡ none) → figure_from width none (array_of width (in_slot none (before ++ (slot_group count low figure ∷ after))) rest) from count low h p k ≡ figure h p k
unfolding figure_from
group_back {A} none width rest before after from count low figure at fits h p k inside = go (decided (in_group count low h p k))
  where
    groups : List (SlotGroup A)
    groups = before ++ (slot_group count low figure ∷ after)

    go : (in_group count low h p k ≡ true) ⊎ (in_group count low h p k ≡ false) → cond (in_group count low h p k) (read_at width none (array_of width (in_slot none groups) rest) h p (from + (k - low))) none ≡ figure h p k
    go (inl e) =
        let f = group_facts count low h p k e in
        ap (λ t. cond t (read_at width none (array_of width (in_slot none groups) rest) h p (from + (k - low))) none) e
        ∙ (array_shows width none (in_slot none groups) rest).each h p (from + (k - low)) (record { holder = f.0; place = f.1; in_row = omega arith })
        ∙ ap (λ n. in_slot none groups h p (n + (k - low))) (sym at)
        ∙ group_slot none before after count low figure h p (k - low) (omega arith)
        ∙ ap (figure h p) (let same : k - low + low ≡ k = omega arith in same)
    go (inr e) = ap (λ t. cond t (read_at width none (array_of width (in_slot none groups) rest) h p (from + (k - low))) none) e ∙ sym (inside e)

-- a test is read back from its flag
pub flag_back : (test : Bool) → eqb (flag test) 1 ≡ test
unfolding flag when_true
flag_back true = refl
flag_back false = refl

module _ (L : Ledger) (k : Confined L) where
  -- group i of the figures, and of what was posted
  figure-back : (i from count low : ℕ) (figure : ℕ → ℕ → ℕ → ℕ) → slots_of (take i (figure_groups L)) ≡ from → from + count ≤ figure_slots → figure_groups L ≡ take i (figure_groups L) ++ (slot_group count low figure ∷ drop (suc i) (figure_groups L)) → (h p n : ℕ) → (in_group count low h p n ≡ false → figure h p n ≡ 0) → figure_in (figures_of L) from count low h p n ≡ figure h p n
  unfolding figure_in figures_of
  figure-back i from count low figure at fits e h p n inside =
      ap (λ g. figure_from figure_slots 0 (array_of figure_slots (in_slot 0 g) (calendar_of L)) from count low h p n) e
      ∙ group_back 0 figure_slots (calendar_of L) (take i (figure_groups L)) (drop (suc i) (figure_groups L)) from count low figure at fits h p n inside

  posted-back : (i from count low : ℕ) (figure : ℕ → ℕ → ℕ → Bool) → slots_of (take i (posted_groups L)) ≡ from → from + count ≤ posted_slots → posted_groups L ≡ take i (posted_groups L) ++ (slot_group count low figure ∷ drop (suc i) (posted_groups L)) → (h p n : ℕ) → (in_group count low h p n ≡ false → figure h p n ≡ false) → is_posted_in (posted_of L) from count low h p n ≡ figure h p n
  unfolding is_posted_in posted_of
  posted-back i from count low figure at fits e h p n inside =
      ap (λ g. figure_from posted_slots false (array_of posted_slots (in_slot false g) []) from count low h p n) e
      ∙ group_back false posted_slots [] (take i (posted_groups L)) (drop (suc i) (posted_groups L)) from count low figure at fits h p n inside

  -- the numbers after the figures
  pub closed_back : last_closed_in (figures_of L) ≡ L.tiers.last_closed
  unfolding last_closed_in figures_of calendar_of
  closed_back = (array_shows figure_slots 0 (in_slot 0 (figure_groups L)) (calendar_of L)).tail 0

  pub current_back : current_tier_in (figures_of L) ≡ L.tiers.current_tier
  unfolding current_tier_in figures_of calendar_of
  current_back = (array_shows figure_slots 0 (in_slot 0 (figure_groups L)) (calendar_of L)).tail 1

  pub step_back : step_held_in (figures_of L) ≡ L.tiers.step_held
  unfolding step_held_in figures_of calendar_of
  step_back = ap (λ n. eqb n 1) ((array_shows figure_slots 0 (in_slot 0 (figure_groups L)) (calendar_of L)).tail 2) ∙ flag_back L.tiers.step_held

  nominated-back : (h p t : ℕ) → cond (eqb t (current_tier_in (figures_of L))) (figure_in (figures_of L) nominated_slot 1 0 h p 0) (figure_in (figures_of L) awards_slot tier_slots 0 h p t) ≡ L.tiers.nominated h p t
  unfolding figure_groups slots_of
  nominated-back h p t = ap (λ n. cond (eqb t n) (figure_in (figures_of L) nominated_slot 1 0 h p 0) (figure_in (figures_of L) awards_slot tier_slots 0 h p t)) current_back ∙ go (eqb t L.tiers.current_tier) refl
    where
      opened : in_group 1 0 h p 0 ≡ false → L.tiers.nominated h p L.tiers.current_tier ≡ 0
      opened none = k.tiers.nominated h p L.tiers.current_tier (outside (decided (in_group tier_slots 0 h p L.tiers.current_tier)))
        where
          outside : (in_group tier_slots 0 h p L.tiers.current_tier ≡ true) ⊎ (in_group tier_slots 0 h p L.tiers.current_tier ≡ false) → in_group tier_slots 0 h p L.tiers.current_tier ≡ false
          outside (inl e) = let f = group_facts tier_slots 0 h p L.tiers.current_tier e in absurd (both_ways (in_group_lem 1 0 h p 0 f.0 f.1 (omega arith) (omega arith)) none)
          outside (inr e) = e

      go : (b : Bool) → eqb t L.tiers.current_tier ≡ b → cond b (figure_in (figures_of L) nominated_slot 1 0 h p 0) (figure_in (figures_of L) awards_slot tier_slots 0 h p t) ≡ L.tiers.nominated h p t
      go true e = figure-back 5 nominated_slot 1 0 (λ h p n. L.tiers.nominated h p L.tiers.current_tier) refl (omega arith) refl h p 0 opened ∙ ap (L.tiers.nominated h p) (sym (eqb-true t L.tiers.current_tier e))
      go false e = figure-back 6 awards_slot tier_slots 0 L.tiers.awards refl (omega arith) refl h p t (k.tiers.awards h p t) ∙ sym (k.sound.not_open_is_awards h p t (eqb-false t L.tiers.current_tier e))

  pub read_back : ledger_in (figures_of L) (posted_of L) (evidence_of L) ≡ L
  unfolding ledger_in figure_groups posted_groups evidence_groups evidence_of slots_of
  read_back =
      λ i.
      record {
        loads = record { kw = λ h s t. figure-back 0 load_slot terms 0 L.loads.kw refl (omega arith) refl h s t (k.loads.kw h s t) i; posted = λ h s t. posted-back 0 load_posted_slot terms 0 L.loads.posted refl (omega arith) refl h s t (k.loads.posted h s t) i };
        rights = record { carried = λ h p m. figure-back 3 carried_slot last_month 1 L.rights.carried refl (omega arith) refl h p m (k.rights.carried h p m) i; awarded = λ h p m. figure-back 4 awarded_slot last_month 1 L.rights.awarded refl (omega arith) refl h p m (k.rights.awarded h p m) i; posted = λ h p. posted-back 1 carry_posted_slot 1 0 (λ h p n. L.rights.posted h p) refl (omega arith) refl h p 0 (k.rights.posted h p) i };
        priors = record { allocated = λ h p. figure-back 1 prior_allocated_slot 1 0 (λ h p n. L.priors.allocated h p) refl (omega arith) refl h p 0 (k.priors.allocated h p) i; remaining = λ h p. figure-back 2 prior_remaining_slot 1 0 (λ h p n. L.priors.remaining h p) refl (omega arith) refl h p 0 (k.priors.remaining h p) i; posted = λ h p. posted-back 2 prior_posted_slot 1 0 (λ h p n. L.priors.posted h p) refl (omega arith) refl h p 0 (k.priors.posted h p) i };
        evidence = record { entry = λ h s n. group_back empty_entry evidence_slots [] [] [] 0 evidence_kinds 1 L.evidence.entry refl (omega arith) h s n (k.evidence.entry h s n) i; posted = λ h s n. posted-back 3 evidence_posted_slot evidence_kinds 1 L.evidence.posted refl (omega arith) refl h s n (k.evidence.posted h s n) i };
        tiers = record { nominated = λ h p t. nominated-back h p t i; awards = λ h p t. figure-back 6 awards_slot tier_slots 0 L.tiers.awards refl (omega arith) refl h p t (k.tiers.awards h p t) i; last_closed = closed_back i; current_tier = current_back i; step_held = step_back i };
      }
