-- Nominations stay within the limit that the ledger before the tier's opening gives, over every list of calls. Assumes nothing.
use Prim.Native.Nat.{ℕ, ◌+◌, ◌-◌, ◌≤◌, zero-le}
use mathlib.Core.Path.{◌≡◌, refl, sym, ap, ◌∙◌}
use mathlib.Core.Bool.{true, false, ◌&&◌}
use mathlib.Core.Logic.{◌⊎◌, inl, inr}
use native.Mathlib.Nat.{le_trans, le_of_eq}
use native.Mathlib.Omega.{arith}
use lib.Dec.{eqb}
use borrow.Author.Tests.{eqb-true}
use Rattle.tariff.specs.Sum.{when_true}
use Rattle.tariff.proofs.Sums.{when_is_true, when_is_false, when_zero, sum_zero}
use Rattle.tariff.proofs.Tests.{and_both, decided}
use Rattle.tariff.proofs.Limits.{limit_reads_before}
use Rattle.ledger.specs.Opening.{Opening, has_base, path_base}
use Rattle.ledger.specs.Ledger.{Ledger, with_loads, with_rights, with_priors, with_evidence, with_tiers}
use Rattle.ledger.specs.Call.{Call, load, carry, prior, verify, migrate, open_tier, nominate, award, close_tier}
use Rattle.ledger.specs.TenYear.{ten_year_at, ten_year_sum}
use Rattle.ledger.specs.Limits.{sum_at_base, long_term_at, prior_year_at, awards_at, nominated_at, limit_sums, tier_limit}
use Rattle.ledger.specs.Migration.{migrated}
use Rattle.ledger.specs.Effects.{after_open, after_nominate, awards_after, holdings_after, after_close, effect}
use Rattle.ledger.specs.Season.{accepted, step}
use Rattle.ledger.proofs.Steps.{step_keeps}
use Rattle.ledger.proofs.PostingFacts.{load_facts, carry_facts, prior_facts, verify_facts}
use Rattle.ledger.proofs.TierFacts.{migrate_facts, open_facts, nominate_facts}
use Rattle.ledger.proofs.TiersSound.{TiersSound}
use Rattle.ledger.proofs.AtBase.{base_plus, base_other}

-- no call of these is accepted while a tier is open
pub closed_only : (L : Ledger) → L.tiers.current_tier ≡ 0 → 1 ≤ L.tiers.current_tier → ⊥
closed_only L e l = omega arith

-- the limit of an open tier does not change while it is open
pub limit_steady : (o : Opening) (L : Ledger) (c : Call) (h b : ℕ) → accepted o L c ≡ true → 1 ≤ L.tiers.current_tier → tier_limit o (effect o L c) L.tiers.current_tier h b ≡ tier_limit o L L.tiers.current_tier h b
unfolding effect with_tiers with_rights tier_limit limit_sums long_term_at prior_year_at awards_at ten_year_sum ten_year_at after_open after_nominate awards_after holdings_after after_close
limit_steady o L (load x s term contract n blocks) h b e is_open = absurd (closed_only L (load_facts o L x s term contract n blocks e).idle is_open)
limit_steady o L (carry x p kw) h b e is_open = absurd (closed_only L (carry_facts o L x p kw e).idle is_open)
limit_steady o L (prior x p a l) h b e is_open = absurd (closed_only L (prior_facts o L x p a l e).idle is_open)
limit_steady o L (verify x s kind capacity right first last mark) h b e is_open = absurd (closed_only L (verify_facts o L x s kind capacity right first last mark e).idle is_open)
limit_steady o L (migrate term sink lines) h b e is_open = absurd (closed_only L (migrate_facts o L term sink lines e).idle is_open)
limit_steady o L (open_tier tier) h b e is_open = absurd (closed_only L (open_facts o L tier e).idle is_open)
limit_steady o L (nominate x q kw) h b e is_open = refl
limit_steady o L (award x q kw) h b e is_open =
    limit_reads_before o.settings (limit_sums o (effect o L (award x q kw)) L.tiers.current_tier h b) (limit_sums o L L.tiers.current_tier h b) L.tiers.current_tier is_open
    (record {
      load = refl;
      carried = refl;
      prior = refl;
      tier1 = λ l. base_other o b x q L.tiers.current_tier kw h 1 L.tiers.awards (λ q. omega (arith, q));
      tier2 = λ l. base_other o b x q L.tiers.current_tier kw h 2 L.tiers.awards (λ q. omega (arith, q));
      tier3 = λ l. base_other o b x q L.tiers.current_tier kw h 3 L.tiers.awards (λ q. omega (arith, q));
      before = base_other o b x q L.tiers.current_tier kw h (L.tiers.current_tier - 1) L.tiers.awards (λ q. omega (arith, q));
      ten_year = refl;
      obaalse = refl;
    })
limit_steady o L close_tier h b e is_open = refl

-- what every holder has nominated at every base in the open tier is within the tier's limit
abbrev pub WithinLimit : Opening → Ledger → Type 0
WithinLimit o L = 1 ≤ L.tiers.current_tier → (h b : ℕ) → nominated_at o L h b L.tiers.current_tier ≤ tier_limit o L L.tiers.current_tier h b

-- a tier that has just opened has no nominations
pub opened_empty : (o : Opening) (L : Ledger) (tier h b : ℕ) → TiersSound L.tiers → accepted o L (open_tier tier) ≡ true → nominated_at o (effect o L (open_tier tier)) h b tier ≡ 0
unfolding nominated_at sum_at_base effect with_tiers after_open
opened_empty o L tier h b k e =
    let f = open_facts o L tier e in
    sum_zero o.paths (λ p l. ap (when_true (has_base o b p)) (k.fresh h p tier (λ q. omega (arith, q)) f.after_last_closed f.not_opened_before) ∙ when_zero (has_base o b p))

-- what a nomination adds at a base, where it was accepted
pub nominate_adds : (o : Opening) (L : Ledger) (x q kw h b : ℕ) → accepted o L (nominate x q kw) ≡ true → nominated_at o (effect o L (nominate x q kw)) h b L.tiers.current_tier ≡ nominated_at o L h b L.tiers.current_tier + when_true (eqb h x && has_base o b q) kw
unfolding nominated_at effect with_tiers after_nominate
nominate_adds o L x q kw h b e = base_plus o b x q L.tiers.current_tier kw h L.tiers.nominated (nominate_facts o L x q kw e).path

-- an award changes no nomination
pub award_leaves : (o : Opening) (L : Ledger) (x q kw h b t : ℕ) → nominated_at o (effect o L (award x q kw)) h b t ≡ nominated_at o L h b t
unfolding nominated_at effect with_tiers with_rights awards_after
award_leaves o L x q kw h b t = refl

nominate_within : (o : Opening) (L : Ledger) (x q kw h b : ℕ) → accepted o L (nominate x q kw) ≡ true → nominated_at o L h b L.tiers.current_tier ≤ tier_limit o L L.tiers.current_tier h b → nominated_at o L h b L.tiers.current_tier + when_true (eqb h x && has_base o b q) kw ≤ tier_limit o L L.tiers.current_tier h b
unfolding has_base
nominate_within o L x q kw h b e old = go (decided (eqb h x && has_base o b q))
  where
    k : ℕ
    k = L.tiers.current_tier

    go : (eqb h x && has_base o b q ≡ true) ⊎ (eqb h x && has_base o b q ≡ false) → nominated_at o L h b k + when_true (eqb h x && has_base o b q) kw ≤ tier_limit o L k h b
    go (inl t) =
        let both = and_both (eqb h x) (has_base o b q) t in
        let here = when_is_true kw t in
        let hx = eqb-true h x both.0 in
        let bq = sym (eqb-true (path_base o q) b both.1) in
        let fact = (nominate_facts o L x q kw e).within_limit in
        let nom : nominated_at o L h b k ≡ nominated_at o L x (path_base o q) k = λ i. nominated_at o L (hx i) (bq i) k in
        let lim : tier_limit o L k h b ≡ tier_limit o L k x (path_base o q) = λ i. tier_limit o L k (hx i) (bq i) in
        omega arith
    go (inr t) = let none = when_is_false kw t in omega arith

pub within_effect : (o : Opening) (L : Ledger) (c : Call) → TiersSound L.tiers → WithinLimit o L → accepted o L c ≡ true → WithinLimit o (effect o L c)
unfolding effect with_loads with_rights with_priors with_evidence with_tiers migrated after_open after_nominate awards_after after_close
within_effect o L (load x s term contract n blocks) k w e is_open = absurd (closed_only L (load_facts o L x s term contract n blocks e).idle is_open)
within_effect o L (carry x p kw) k w e is_open = absurd (closed_only L (carry_facts o L x p kw e).idle is_open)
within_effect o L (prior x p a l) k w e is_open = absurd (closed_only L (prior_facts o L x p a l e).idle is_open)
within_effect o L (verify x s kind capacity right first last mark) k w e is_open = absurd (closed_only L (verify_facts o L x s kind capacity right first last mark e).idle is_open)
within_effect o L (migrate term sink lines) k w e is_open = absurd (closed_only L (migrate_facts o L term sink lines e).idle is_open)
within_effect o L (open_tier tier) k w e is_open = λ h b. le_trans (le_of_eq (opened_empty o L tier h b k e)) zero-le
within_effect o L (nominate x q kw) k w e is_open =
    λ h b.
    le_trans (le_of_eq (nominate_adds o L x q kw h b e))
    (le_trans (nominate_within o L x q kw h b e (w is_open h b)) (le_of_eq (sym (limit_steady o L (nominate x q kw) h b e is_open))))
within_effect o L (award x q kw) k w e is_open =
    λ h b.
    le_trans (le_of_eq (award_leaves o L x q kw h b L.tiers.current_tier))
    (le_trans (w is_open h b) (le_of_eq (sym (limit_steady o L (award x q kw) h b e is_open))))
within_effect o L close_tier k w e is_open = absurd (let z : ⊥ = omega arith in z)

pub within_step : (o : Opening) (L : Ledger) (c : Call) → TiersSound L.tiers → WithinLimit o L → WithinLimit o (step o L c)
within_step o L c k w = step_keeps (WithinLimit o) o L c w (within_effect o L c k w)
