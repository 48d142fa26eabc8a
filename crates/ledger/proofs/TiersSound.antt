-- What holds of the tiers of every ledger that calls lead to. Assumes nothing.
use Prim.Native.Nat.{ℕ, ◌+◌, ◌≤◌, ◌<◌, zero-le}
use mathlib.Core.Path.{◌≡◌, refl, sym, ap, ◌∙◌}
use mathlib.Core.Bool.{Bool, true, false, cond, true≢false, ◌&&◌}
use mathlib.Core.List.{List}
use mathlib.Core.Logic.{◌⊎◌, inl, inr}
use native.Mathlib.Nat.{le_refl, le_trans, le_of_eq}
use native.Mathlib.Omega.{arith}
use lib.Dec.{eqb}
use borrow.Author.Tests.{eqb-true, eqb-false, eq-eqb, ne_eqb}
use Rattle.tariff.specs.Sum.{when_true}
use Rattle.tariff.proofs.Sums.{when_is_true, when_is_false}
use Rattle.tariff.specs.Terms.{is_long_term_step}
use Rattle.tariff.proofs.Tests.{and_both, or_unmet, and_right_false, decided}
use Rattle.ledger.specs.Opening.{Opening}
use Rattle.ledger.specs.Ledger.{Ledger, Tiers, empty_ledger, with_loads, with_rights, with_priors, with_evidence, with_tiers}
use Rattle.ledger.specs.Call.{Call, load, carry, prior, verify, migrate, open_tier, nominate, award, close_tier}
use Rattle.ledger.specs.Migration.{migrated}
use Rattle.ledger.specs.Effects.{same3, plus_at3, after_open, after_nominate, awards_after, after_close, effect}
use Rattle.ledger.specs.Season.{accepted, step, after}
use Rattle.ledger.proofs.Steps.{step_keeps, after_keeps}
use Rattle.ledger.proofs.TierFacts.{OpenFacts, open_facts, NominateFacts, nominate_facts, AwardFacts, award_facts, close_fact}

-- the open tier, if there is one, comes after the last closed; none is past the Long Term step, which is never last closed, and is held once it is open;
-- a tier that was never open has no nomination, and 0 is no tier; awards are within nominations, and in a tier that is not open they are the nominations;
-- the step's nominations are within the tier 1 awards
pub record TiersSound (T : Tiers) : Type 0 where
  pub after_last_closed : 1 ≤ T.current_tier → T.last_closed < T.current_tier
  pub open_last : T.current_tier ≤ 10
  pub closed_last : T.last_closed ≤ 9
  pub step_noted : T.current_tier ≡ 10 → T.step_held ≡ true
  pub fresh : (h p t : ℕ) → (t ≡ T.current_tier → ⊥) → T.last_closed < t → (t ≡ 10 → T.step_held ≡ false) → T.nominated h p t ≡ 0
  pub no_tier_zero : (h p : ℕ) → T.nominated h p 0 ≡ 0
  pub awards_within : (h p t : ℕ) → T.awards h p t ≤ T.nominated h p t
  pub not_open_is_awards : (h p t : ℕ) → (t ≡ T.current_tier → ⊥) → T.nominated h p t ≡ T.awards h p t
  pub step_within_tier1 : (h p : ℕ) → T.nominated h p 10 ≤ T.awards h p 1

-- what is added in another tier leaves this one's figures
pub other_tier : (x q k kw : ℕ) (f : ℕ → ℕ → ℕ → ℕ) (h p t : ℕ) → (t ≡ k → ⊥) → plus_at3 x q k kw f h p t ≡ f h p t
unfolding plus_at3 same3
other_tier x q k kw f h p t ne =
    let none = when_is_false kw (and_right_false (eqb h x && eqb p q) (ne_eqb t k ne)) in
    omega arith

pub added_more : (x q k kw : ℕ) (f : ℕ → ℕ → ℕ → ℕ) (h p t : ℕ) → f h p t ≤ plus_at3 x q k kw f h p t
unfolding plus_at3
added_more x q k kw f h p t = omega arith

-- the place where a figure was added is the one place that is the same in all three numbers
pub same_place : (x q k h p t : ℕ) → same3 x q k h p t ≡ true → (h ≡ x) × (p ≡ q) × (t ≡ k)
unfolding same3
same_place x q k h p t e =
    let both = and_both (eqb h x && eqb p q) (eqb t k) e in
    let first = and_both (eqb h x) (eqb p q) both.0 in
    (eqb-true h x first.0, eqb-true p q first.1, eqb-true t k both.1)

-- an award that is within the nominations keeps awards within them, in its place and elsewhere
award_within : (x q k kw : ℕ) (a n : ℕ → ℕ → ℕ → ℕ) → a x q k + kw ≤ n x q k → (h p t : ℕ) → a h p t ≤ n h p t → plus_at3 x q k kw a h p t ≤ n h p t
unfolding plus_at3
award_within x q k kw a n fits h p t old = go (decided (same3 x q k h p t))
  where
    go : (same3 x q k h p t ≡ true) ⊎ (same3 x q k h p t ≡ false) → a h p t + when_true (same3 x q k h p t) kw ≤ n h p t
    go (inl e) =
        let w = same_place x q k h p t e in
        let here = when_is_true kw e in
        let av : a h p t ≡ a x q k = λ i. a (w.0 i) (w.1 i) (w.2 i) in
        let nv : n h p t ≡ n x q k = λ i. n (w.0 i) (w.1 i) (w.2 i) in
        omega arith
    go (inr e) = let none = when_is_false kw e in omega arith

sound_open : (L : Ledger) (tier : ℕ) → TiersSound L.tiers → OpenFacts L tier → TiersSound (after_open L.tiers tier)
unfolding after_open is_long_term_step
sound_open L tier s f =
    record {
      after_last_closed = λ l. f.after_last_closed;
      open_last = f.high;
      closed_last = s.closed_last;
      step_noted = λ e. rw (eq-eqb tier 10 e);
      fresh = λ h p t ne l not_opened_before. s.fresh h p t (λ e. omega (arith, e, f.idle)) l (λ e. (or_unmet (eqb tier 10) L.tiers.step_held (not_opened_before e)).1);
      no_tier_zero = s.no_tier_zero;
      awards_within = s.awards_within;
      not_open_is_awards = λ h p t ne. even h p t (eqb t 0) refl;
      step_within_tier1 = s.step_within_tier1;
    }
  where
    even : (h p t : ℕ) (b : Bool) → eqb t 0 ≡ b → L.tiers.nominated h p t ≡ L.tiers.awards h p t
    even h p t true e =
        let zero = eqb-true t 0 e in
        let none : L.tiers.nominated h p t ≡ 0 = ap (L.tiers.nominated h p) zero ∙ s.no_tier_zero h p in
        let within = s.awards_within h p t in
        omega arith
    even h p t false e = s.not_open_is_awards h p t (λ w. eqb-false t 0 e (w ∙ f.idle))

sound_nominate : (o : Opening) (L : Ledger) (x q kw : ℕ) → TiersSound L.tiers → NominateFacts o L x q kw → TiersSound (after_nominate L.tiers x q kw)
unfolding after_nominate
sound_nominate o L x q kw s f =
    record {
      after_last_closed = s.after_last_closed;
      open_last = s.open_last;
      closed_last = s.closed_last;
      step_noted = s.step_noted;
      fresh = λ h p t ne l not_opened_before. other_tier x q L.tiers.current_tier kw L.tiers.nominated h p t ne ∙ s.fresh h p t ne l not_opened_before;
      no_tier_zero = λ h p. other_tier x q L.tiers.current_tier kw L.tiers.nominated h p 0 (λ e. omega (arith, e, f.is_open)) ∙ s.no_tier_zero h p;
      awards_within = λ h p t. le_trans (s.awards_within h p t) (added_more x q L.tiers.current_tier kw L.tiers.nominated h p t);
      not_open_is_awards = λ h p t ne. other_tier x q L.tiers.current_tier kw L.tiers.nominated h p t ne ∙ s.not_open_is_awards h p t ne;
      step_within_tier1 = λ h p. covered h p (eqb 10 L.tiers.current_tier) refl;
    }
  where
    covered : (h p : ℕ) (b : Bool) → eqb 10 L.tiers.current_tier ≡ b → plus_at3 x q L.tiers.current_tier kw L.tiers.nominated h p 10 ≤ L.tiers.awards h p 1
    covered h p true e =
        award_within x q L.tiers.current_tier kw L.tiers.nominated (λ i j t. L.tiers.awards i j 1)
        (f.within_tier1 (sym (eqb-true 10 L.tiers.current_tier e))) h p 10 (s.step_within_tier1 h p)
    covered h p false e =
        le_trans (le_of_eq (other_tier x q L.tiers.current_tier kw L.tiers.nominated h p 10 (eqb-false 10 L.tiers.current_tier e))) (s.step_within_tier1 h p)

sound_award : (o : Opening) (L : Ledger) (x q kw : ℕ) → TiersSound L.tiers → AwardFacts o L x q kw → TiersSound (awards_after L.tiers x q kw)
unfolding awards_after
sound_award o L x q kw s f =
    record {
      after_last_closed = s.after_last_closed;
      open_last = s.open_last;
      closed_last = s.closed_last;
      step_noted = s.step_noted;
      fresh = s.fresh;
      no_tier_zero = s.no_tier_zero;
      awards_within = λ h p t. award_within x q L.tiers.current_tier kw L.tiers.awards L.tiers.nominated f.within_nominated h p t (s.awards_within h p t);
      not_open_is_awards = λ h p t ne. s.not_open_is_awards h p t ne ∙ sym (other_tier x q L.tiers.current_tier kw L.tiers.awards h p t ne);
      step_within_tier1 = λ h p. le_trans (s.step_within_tier1 h p) (added_more x q L.tiers.current_tier kw L.tiers.awards h p 1);
    }

-- the tier last closed after a close: the step leaves it, any other tier takes its place
pub closes_to : (T : Tiers) → ((T.current_tier ≡ 10) × ((after_close T).last_closed ≡ T.last_closed)) ⊎ ((T.current_tier ≡ 10 → ⊥) × ((after_close T).last_closed ≡ T.current_tier))
unfolding after_close is_long_term_step
closes_to T = go (eqb T.current_tier 10) refl
  where
    go : (b : Bool) → eqb T.current_tier 10 ≡ b → ((T.current_tier ≡ 10) × (cond (eqb T.current_tier 10) T.last_closed T.current_tier ≡ T.last_closed)) ⊎ ((T.current_tier ≡ 10 → ⊥) × (cond (eqb T.current_tier 10) T.last_closed T.current_tier ≡ T.current_tier))
    go true e = inl (eqb-true T.current_tier 10 e, rw e)
    go false e = inr (eqb-false T.current_tier 10 e, rw e)

sound_close : (L : Ledger) → TiersSound L.tiers → 1 ≤ L.tiers.current_tier → TiersSound (after_close L.tiers)
unfolding after_close
sound_close L s is_open =
    record {
      after_last_closed = λ l. absurd (let z : ⊥ = omega arith in z);
      open_last = zero-le;
      closed_last = last (closes_to L.tiers);
      step_noted = λ e. absurd (let z : ⊥ = omega (arith, e) in z);
      fresh = λ h p t ne l not_opened_before. unused h p t l not_opened_before (closes_to L.tiers) (eqb t L.tiers.current_tier) refl;
      no_tier_zero = λ h p. rw (ne_eqb 0 L.tiers.current_tier (λ e. omega (arith, e))) (s.no_tier_zero h p);
      awards_within = λ h p t. within h p t (eqb t L.tiers.current_tier);
      not_open_is_awards = λ h p t ne. even h p t (eqb t L.tiers.current_tier) refl;
      step_within_tier1 = λ h p. covered h p (eqb 10 L.tiers.current_tier);
    }
  where
    T : Tiers
    T = L.tiers

    Closing : Type 0
    Closing = ((T.current_tier ≡ 10) × ((after_close T).last_closed ≡ T.last_closed)) ⊎ ((T.current_tier ≡ 10 → ⊥) × ((after_close T).last_closed ≡ T.current_tier))

    last : Closing → (after_close T).last_closed ≤ 9
    last (inl w) = le_trans (le_of_eq w.1) s.closed_last
    last (inr w) = let top = s.open_last in le_trans (le_of_eq w.1) (omega (arith, w.0))

    unused : (h p t : ℕ) → (after_close T).last_closed < t → (t ≡ 10 → T.step_held ≡ false) → Closing → (b : Bool) → eqb t T.current_tier ≡ b → cond b (T.awards h p t) (T.nominated h p t) ≡ 0
    unused h p t l not_opened_before (inl w) true e =
        let ten : t ≡ 10 = eqb-true t T.current_tier e ∙ w.0 in
        absurd (true≢false (sym (s.step_noted w.0) ∙ not_opened_before ten))
    unused h p t l not_opened_before (inl w) false e = let same = w.1 in s.fresh h p t (eqb-false t T.current_tier e) (omega arith) not_opened_before
    unused h p t l not_opened_before (inr w) true e = let here = eqb-true t T.current_tier e in let same = w.1 in absurd (let z : ⊥ = omega arith in z)
    unused h p t l not_opened_before (inr w) false e =
        let same = w.1 in
        let before = s.after_last_closed is_open in
        s.fresh h p t (eqb-false t T.current_tier e) (omega arith) not_opened_before

    within : (h p t : ℕ) (b : Bool) → T.awards h p t ≤ cond b (T.awards h p t) (T.nominated h p t)
    within h p t true = le_refl (T.awards h p t)
    within h p t false = s.awards_within h p t

    even : (h p t : ℕ) (b : Bool) → eqb t T.current_tier ≡ b → cond b (T.awards h p t) (T.nominated h p t) ≡ T.awards h p t
    even h p t true e = refl
    even h p t false e = s.not_open_is_awards h p t (eqb-false t T.current_tier e)

    covered : (h p : ℕ) (b : Bool) → cond b (T.awards h p 10) (T.nominated h p 10) ≤ T.awards h p 1
    covered h p true = le_trans (s.awards_within h p 10) (s.step_within_tier1 h p)
    covered h p false = s.step_within_tier1 h p

pub sound_effect : (o : Opening) (L : Ledger) (c : Call) → TiersSound L.tiers → accepted o L c ≡ true → TiersSound (effect o L c).tiers
unfolding effect with_loads with_rights with_priors with_evidence with_tiers migrated
sound_effect o L (load h s term contract n blocks) k e = k
sound_effect o L (carry h p kw) k e = k
sound_effect o L (prior h p a l) k e = k
sound_effect o L (verify h s kind capacity right first last mark) k e = k
sound_effect o L (migrate term sink lines) k e = k
sound_effect o L (open_tier tier) k e = sound_open L tier k (open_facts o L tier e)
sound_effect o L (nominate h p kw) k e = sound_nominate o L h p kw k (nominate_facts o L h p kw e)
sound_effect o L (award h p kw) k e = sound_award o L h p kw k (award_facts o L h p kw e)
sound_effect o L close_tier k e = sound_close L k (close_fact o L e)

pub sound_step : (o : Opening) (L : Ledger) (c : Call) → TiersSound L.tiers → TiersSound (step o L c).tiers
sound_step o L c k = step_keeps (λ l. TiersSound l.tiers) o L c k (sound_effect o L c k)

pub sound_empty : TiersSound empty_ledger.tiers
unfolding empty_ledger
sound_empty =
    record {
      after_last_closed = λ l. absurd (let z : ⊥ = omega arith in z);
      open_last = zero-le;
      closed_last = zero-le;
      step_noted = λ e. absurd (let z : ⊥ = omega (arith, e) in z);
      fresh = λ h p t ne l not_opened_before. refl;
      no_tier_zero = λ h p. refl;
      awards_within = λ h p t. zero-le;
      not_open_is_awards = λ h p t ne. refl;
      step_within_tier1 = λ h p. zero-le;
    }

-- it holds after every list of calls
pub tiers_sound : (o : Opening) (cs : List Call) → TiersSound (after o cs).tiers
tiers_sound o cs = after_keeps (λ l. TiersSound l.tiers) o (sound_step o) sound_empty cs
