-- Once a tier is closed its nominations are its awards, and neither ever changes again. Assumes nothing.
use Prim.Native.Nat.{ℕ, ◌≤◌}
use mathlib.Core.Path.{◌≡◌, refl, sym, ap, ◌∙◌}
use mathlib.Core.Bool.{true, true≢false, ◌||◌, or-true}
use mathlib.Core.List.{List, [], ◌∷◌}
use mathlib.Core.Logic.{◌⊎◌, inl, inr}
use native.Mathlib.Nat.{le_trans, le_of_eq}
use native.Mathlib.Omega.{arith}
use lib.Dec.{eqb}
use borrow.Author.Tests.{ne_eqb}
use Rattle.tariff.specs.Terms.{is_long_term_step}
use Rattle.ledger.specs.Opening.{Opening}
use Rattle.ledger.specs.Ledger.{Ledger, Tiers, with_loads, with_rights, with_priors, with_evidence, with_tiers}
use Rattle.ledger.specs.Call.{Call, load, carry, prior, verify, migrate, open_tier, nominate, award, close_tier}
use Rattle.ledger.specs.Migration.{migrated}
use Rattle.ledger.specs.Effects.{after_open, after_nominate, awards_after, after_close, effect}
use Rattle.ledger.specs.Season.{accepted, step, after_from, after}
use Rattle.ledger.proofs.Steps.{step_keeps}
use Rattle.ledger.proofs.TierFacts.{OpenFacts, open_facts, nominate_facts, award_facts, close_fact}
use Rattle.ledger.proofs.TiersSound.{TiersSound, other_tier, closes_to, sound_step, tiers_sound}

-- a tier is closed: it is not after the last closed, or it is the Long Term step, held and not open
unfoldable pub IsClosed : Tiers → ℕ → Type 0
IsClosed T t = (t ≤ T.last_closed) ⊎ ((t ≡ 10) × (T.step_held ≡ true) × (T.current_tier ≡ 10 → ⊥))

-- a closed tier is not the open one
pub closed_not_open : (T : Tiers) → TiersSound T → 1 ≤ T.current_tier → (t : ℕ) → IsClosed T t → t ≡ T.current_tier → ⊥
unfolding IsClosed
closed_not_open T k is_open t (inl l) e = let later = k.after_last_closed is_open in omega arith
closed_not_open T k is_open t (inr w) e = w.2 (sym e ∙ w.0)

-- the tiers closed in the first are closed in the second, with the same figures
pub record Settled (T U : Tiers) : Type 0 where
  pub stay_closed : (t : ℕ) → IsClosed T t → IsClosed U t
  pub nominations : (h p t : ℕ) → IsClosed T t → U.nominated h p t ≡ T.nominated h p t
  pub awards_kept : (h p t : ℕ) → IsClosed T t → U.awards h p t ≡ T.awards h p t

settled_same : (T : Tiers) → Settled T T
settled_same T = record { stay_closed = λ t l. l; nominations = λ h p t l. refl; awards_kept = λ h p t l. refl }

settled_trans : {T U W : Tiers} → Settled T U → Settled U W → Settled T W
settled_trans a b =
    record {
      stay_closed = λ t l. b.stay_closed t (a.stay_closed t l);
      nominations = λ h p t l. b.nominations h p t (a.stay_closed t l) ∙ a.nominations h p t l;
      awards_kept = λ h p t l. b.awards_kept h p t (a.stay_closed t l) ∙ a.awards_kept h p t l;
    }

-- an opened tier was not closed: the step opens once
closed_at_open : (L : Ledger) (tier : ℕ) → OpenFacts L tier → (t : ℕ) → IsClosed L.tiers t → IsClosed (after_open L.tiers tier) t
unfolding IsClosed after_open is_long_term_step
closed_at_open L tier f t (inl l) = inl l
closed_at_open L tier f t (inr w) =
    inr (w.0, ap (λ b. eqb tier 10 || b) w.1 ∙ or-true (eqb tier 10), λ e. true≢false (sym w.1 ∙ f.not_opened_before e))

-- a close takes no closed tier back
closed_at_close : (T : Tiers) → TiersSound T → 1 ≤ T.current_tier → (t : ℕ) → IsClosed T t → IsClosed (after_close T) t
unfolding IsClosed after_close
closed_at_close T k is_open t (inl l) = inl (go (closes_to T))
  where
    go : ((T.current_tier ≡ 10) × ((after_close T).last_closed ≡ T.last_closed)) ⊎ ((T.current_tier ≡ 10 → ⊥) × ((after_close T).last_closed ≡ T.current_tier)) → t ≤ (after_close T).last_closed
    go (inl w) = le_trans l (le_of_eq (sym w.1))
    go (inr w) = let later = k.after_last_closed is_open in let same = w.1 in omega arith
closed_at_close T k is_open t (inr w) = inr (w.0, w.1, λ e. let z : ⊥ = omega (arith, e) in z)

-- an open changes no figure, and a close those of the open tier alone
opened_same : (L : Ledger) (tier : ℕ) → ((h p t : ℕ) → (after_open L.tiers tier).nominated h p t ≡ L.tiers.nominated h p t) × ((h p t : ℕ) → (after_open L.tiers tier).awards h p t ≡ L.tiers.awards h p t)
unfolding after_open
opened_same L tier = (λ h p t. refl, λ h p t. refl)

closed_same : (L : Ledger) (h p t : ℕ) → (t ≡ L.tiers.current_tier → ⊥) → (after_close L.tiers).nominated h p t ≡ L.tiers.nominated h p t
unfolding after_close
closed_same L h p t ne = rw (ne_eqb t L.tiers.current_tier ne)

closed_awards : (L : Ledger) (h p t : ℕ) → (after_close L.tiers).awards h p t ≡ L.tiers.awards h p t
unfolding after_close
closed_awards L h p t = refl

settled_effect : (o : Opening) (L : Ledger) (c : Call) → TiersSound L.tiers → accepted o L c ≡ true → Settled L.tiers (effect o L c).tiers
unfolding effect with_loads with_rights with_priors with_evidence with_tiers migrated after_nominate awards_after IsClosed
settled_effect o L (load h s term contract n blocks) k e = settled_same L.tiers
settled_effect o L (carry h p kw) k e = settled_same L.tiers
settled_effect o L (prior h p a l) k e = settled_same L.tiers
settled_effect o L (verify h s kind capacity right first last mark) k e = settled_same L.tiers
settled_effect o L (migrate term sink lines) k e = settled_same L.tiers
settled_effect o L (open_tier tier) k e =
    record {
      stay_closed = closed_at_open L tier (open_facts o L tier e);
      nominations = λ h p t l. (opened_same L tier).0 h p t;
      awards_kept = λ h p t l. (opened_same L tier).1 h p t;
    }
settled_effect o L (nominate x q kw) k e =
    record {
      stay_closed = λ t l. l;
      nominations = λ h p t l. other_tier x q L.tiers.current_tier kw L.tiers.nominated h p t (closed_not_open L.tiers k (nominate_facts o L x q kw e).is_open t l);
      awards_kept = λ h p t l. refl;
    }
settled_effect o L (award x q kw) k e =
    record {
      stay_closed = λ t l. l;
      nominations = λ h p t l. refl;
      awards_kept = λ h p t l. other_tier x q L.tiers.current_tier kw L.tiers.awards h p t (closed_not_open L.tiers k (award_facts o L x q kw e).is_open t l);
    }
settled_effect o L close_tier k e =
    record {
      stay_closed = closed_at_close L.tiers k (close_fact o L e);
      nominations = λ h p t l. closed_same L h p t (closed_not_open L.tiers k (close_fact o L e) t l);
      awards_kept = λ h p t l. closed_awards L h p t;
    }

settled_from : (o : Opening) (L : Ledger) → TiersSound L.tiers → (cs : List Call) → Settled L.tiers (after_from o L cs).tiers
unfolding after_from
settled_from o L k [] = settled_same L.tiers
settled_from o L k (c ∷ cs) =
    settled_trans (step_keeps (λ l. Settled L.tiers l.tiers) o L c (settled_same L.tiers) (settled_effect o L c k))
    (settled_from o (step o L c) (sound_step o L c k) cs)

-- whatever is called later, the tiers closed so far keep their figures
pub earlier_tiers_settled : (o : Opening) (cs more : List Call) → Settled (after o cs).tiers (after_from o (after o cs) more).tiers
earlier_tiers_settled o cs more = settled_from o (after o cs) (tiers_sound o cs) more

-- awards are within nominations, per holder, path and tier
pub awards_within_nominations : (o : Opening) (cs : List Call) (h p t : ℕ) → (after o cs).tiers.awards h p t ≤ (after o cs).tiers.nominated h p t
awards_within_nominations o cs = (tiers_sound o cs).awards_within

-- the nominations of a tier that is not open are put down to its awards
pub not_open_is_awards_lem : (o : Opening) (cs : List Call) (h p t : ℕ) → (t ≡ (after o cs).tiers.current_tier → ⊥) → (after o cs).tiers.nominated h p t ≡ (after o cs).tiers.awards h p t
not_open_is_awards_lem o cs = (tiers_sound o cs).not_open_is_awards

-- 02, 1/14: the Long Term step's awards are within the holder's tier 1 awards, path by path
pub step_within_tier_1 : (o : Opening) (cs : List Call) (h p : ℕ) → (after o cs).tiers.awards h p 10 ≤ (after o cs).tiers.awards h p 1
step_within_tier_1 o cs h p = let k = tiers_sound o cs in le_trans (k.awards_within h p 10) (k.step_within_tier1 h p)
