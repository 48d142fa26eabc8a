-- The nominations of a tier, from its accepted open to its close or so far, are within the limit before that open. Assumes nothing.
use Prim.Native.Nat.{ℕ, ◌+◌, ◌≤◌}
use mathlib.Core.Path.{◌≡◌, refl, ap}
use mathlib.Core.Bool.{Bool, true, false}
use mathlib.Core.List.{List, [], ◌∷◌}
use native.Mathlib.Omega.{arith}
use Rattle.tariff.proofs.Sums.{when_is_true, when_is_false}
use Rattle.tariff.proofs.Tests.{and_right_false}
use Rattle.ledger.specs.Opening.{Opening}
use Rattle.ledger.specs.Ledger.{Ledger, empty_ledger, with_tiers, with_rights}
use Rattle.ledger.specs.Call.{Call, load, carry, prior, verify, migrate, open_tier, nominate, award, close_tier}
use Rattle.ledger.specs.TenYear.{ten_year_at, ten_year_sum}
use Rattle.ledger.specs.Limits.{long_term_at, prior_year_at, awards_at, limit_sums, nominated_at, tier_limit}
use Rattle.ledger.specs.Effects.{after_open, after_nominate, awards_after, effect}
use Rattle.ledger.specs.Season.{accepted, step, after}
use Rattle.ledger.specs.Totals.{contribution, no_contribution, sum_accepted, until_close, nominated_in}
use Rattle.ledger.proofs.Steps.{step_refused, step_accepted, after_keeps}
use Rattle.ledger.proofs.PostingFacts.{load_facts, carry_facts, prior_facts, verify_facts}
use Rattle.ledger.proofs.TierFacts.{migrate_facts, open_facts}
use Rattle.ledger.proofs.TiersSound.{TiersSound, sound_effect, sound_step, sound_empty, tiers_sound}
use Rattle.ledger.proofs.WithinLimit.{WithinLimit, closed_only, limit_steady, nominate_adds, award_leaves, within_effect, within_step}

module _ (o : Opening) (h b : ℕ) where
  -- a refused call adds nothing and closes nothing
  nominated-refused : (L : Ledger) (c : Call) (cs : List Call) → accepted o L c ≡ false → nominated_in o L (c ∷ cs) h b ≡ nominated_in o L cs h b
  unfolding nominated_in until_close sum_accepted
  nominated-refused L c cs e =
      let same = step_refused o L c e in
      rw (and_right_false (contribution o L c).closes e)
      (let none = when_is_false ((contribution o L c).nominated h b) e in
      let rest : sum_accepted (λ L c. (contribution o L c).nominated h b) o (step o L c) (until_close o (step o L c) cs) ≡ sum_accepted (λ L c. (contribution o L c).nominated h b) o L (until_close o L cs) = λ i. sum_accepted (λ L c. (contribution o L c).nominated h b) o (same i) (until_close o (same i) cs) in
      omega arith)

  -- an accepted close ends them
  nominated-close : (L : Ledger) (cs : List Call) → accepted o L close_tier ≡ true → nominated_in o L (close_tier ∷ cs) h b ≡ 0
  unfolding nominated_in until_close sum_accepted contribution no_contribution
  nominated-close L cs e = rw e

  -- any other accepted call adds its own
  nominated-other : (L : Ledger) (c : Call) (cs : List Call) → (contribution o L c).closes ≡ false → accepted o L c ≡ true → nominated_in o L (c ∷ cs) h b ≡ (contribution o L c).nominated h b + nominated_in o (step o L c) cs h b
  unfolding nominated_in until_close sum_accepted
  nominated-other L c cs n e = rw n (let own = when_is_true ((contribution o L c).nominated h b) e in omega arith)

  -- what the holder nominates from here to the tier's close, with what it has nominated, is within the limit as it stands here
  abbrev FromHere : List Call → Type 0
  FromHere cs = (L : Ledger) → TiersSound L.tiers → WithinLimit o L → 1 ≤ L.tiers.current_tier → nominated_at o L h b L.tiers.current_tier + nominated_in o L cs h b ≤ tier_limit o L L.tiers.current_tier h b

  accepted-within : (c : Call) (cs : List Call) → FromHere cs → (L : Ledger) → TiersSound L.tiers → WithinLimit o L → 1 ≤ L.tiers.current_tier → accepted o L c ≡ true → nominated_at o L h b L.tiers.current_tier + nominated_in o L (c ∷ cs) h b ≤ tier_limit o L L.tiers.current_tier h b
  unfolding contribution no_contribution effect with_tiers with_rights after_nominate awards_after
  accepted-within (load x s term contract n blocks) cs later L k w is_open e = absurd (closed_only L (load_facts o L x s term contract n blocks e).idle is_open)
  accepted-within (carry x p kw) cs later L k w is_open e = absurd (closed_only L (carry_facts o L x p kw e).idle is_open)
  accepted-within (prior x p a l) cs later L k w is_open e = absurd (closed_only L (prior_facts o L x p a l e).idle is_open)
  accepted-within (verify x s kind capacity right first last mark) cs later L k w is_open e = absurd (closed_only L (verify_facts o L x s kind capacity right first last mark e).idle is_open)
  accepted-within (migrate term sink lines) cs later L k w is_open e = absurd (closed_only L (migrate_facts o L term sink lines e).idle is_open)
  accepted-within (open_tier tier) cs later L k w is_open e = absurd (closed_only L (open_facts o L tier e).idle is_open)
  accepted-within (nominate x q kw) cs later L k w is_open e =
      let c = nominate x q kw in
      let own = nominated-other L c cs refl e in
      let same = ap (λ l. nominated_in o l cs h b) (step_accepted o L c e) in
      let adds = nominate_adds o L x q kw h b e in
      let steady = limit_steady o L c h b e is_open in
      let rest : nominated_at o (effect o L c) h b L.tiers.current_tier + nominated_in o (effect o L c) cs h b ≤ tier_limit o (effect o L c) L.tiers.current_tier h b =
      later (effect o L c) (sound_effect o L c k e) (within_effect o L c k w e) is_open in
      omega arith
  accepted-within (award x q kw) cs later L k w is_open e =
      let c = award x q kw in
      let own = nominated-other L c cs refl e in
      let same = ap (λ l. nominated_in o l cs h b) (step_accepted o L c e) in
      let leaves = award_leaves o L x q kw h b L.tiers.current_tier in
      let steady = limit_steady o L c h b e is_open in
      let rest : nominated_at o (effect o L c) h b L.tiers.current_tier + nominated_in o (effect o L c) cs h b ≤ tier_limit o (effect o L c) L.tiers.current_tier h b =
      later (effect o L c) (sound_effect o L c k e) (within_effect o L c k w e) is_open in
      omega arith
  accepted-within close_tier cs later L k w is_open e = let none = nominated-close L cs e in let now = w is_open h b in omega arith

  from-here : (cs : List Call) → FromHere cs
  unfolding nominated_in until_close sum_accepted
  from-here [] L k w is_open = let now = w is_open h b in omega arith
  from-here (c ∷ cs) L k w is_open = go (from-here cs) (accepted o L c) refl
    where
      go : FromHere cs → (t : Bool) → accepted o L c ≡ t → nominated_at o L h b L.tiers.current_tier + nominated_in o L (c ∷ cs) h b ≤ tier_limit o L L.tiers.current_tier h b
      go later true e = accepted-within c cs later L k w is_open e
      go later false e = let same = nominated-refused L c cs e in let rest = later L k w is_open in omega arith

-- it holds after every list of calls
pub within_limit_lem : (o : Opening) (cs : List Call) → WithinLimit o (after o cs)
unfolding empty_ledger
within_limit_lem o cs =
    (after_keeps (λ l. TiersSound l.tiers × WithinLimit o l) o (λ L c p. (sound_step o L c p.0, within_step o L c p.0 p.1))
    (sound_empty, λ is_open. absurd (let z : ⊥ = omega arith in z))
    cs
    ).1

-- the limit of the tier that opens is the one that the ledger before the open gives
pub open_leaves_limit : (o : Opening) (L : Ledger) (tier h b : ℕ) → tier_limit o (effect o L (open_tier tier)) tier h b ≡ tier_limit o L tier h b
unfolding effect with_tiers after_open tier_limit limit_sums long_term_at prior_year_at awards_at ten_year_sum ten_year_at
open_leaves_limit o L tier h b = refl

-- for each accepted open: the nominations from it to the tier's close, or so far, are within the limit that the ledger before it gives
pub nominations_within_limit : (o : Opening) (before since : List Call) (tier h b : ℕ) → accepted o (after o before) (open_tier tier) ≡ true → nominated_in o (step o (after o before) (open_tier tier)) since h b ≤ tier_limit o (after o before) tier h b
unfolding effect with_tiers after_open
nominations_within_limit o before since tier h b e =
    let L = after o before in
    let c = open_tier tier in
    let k = tiers_sound o before in
    let same = ap (λ l. nominated_in o l since h b) (step_accepted o L c e) in
    let limit = open_leaves_limit o L tier h b in
    let low = (open_facts o L tier e).low in
    let all : nominated_at o (effect o L c) h b tier + nominated_in o (effect o L c) since h b ≤ tier_limit o (effect o L c) tier h b =
    from-here o h b since (effect o L c) (sound_effect o L c k e) (within_effect o L c k (within_limit_lem o before) e) low in
    omega arith
