-- Nominations and awards are bounded in every ledger that calls lead to, by the loads that their limits come from. Assumes nothing.
use Prim.Native.Nat.{ℕ, ◌+◌, ◌*◌, ◌≤◌, ◌<◌, zero-le}
use mathlib.Core.Path.{◌≡◌, refl, sym, ap, ◌∙◌, subst}
use mathlib.Core.Bool.{Bool, true, false, cond, ◌&&◌, and_comm}
use mathlib.Core.List.{List}
use native.Mathlib.Nat.{le_refl, le_trans, le_of_eq}
use native.Mathlib.Omega.{arith}
use lib.Dec.{eqb}
use borrow.Author.Tests.{eqb-true, eqb-false}
use Rattle.tariff.specs.Sum.{when_true, sum_to}
use Rattle.tariff.specs.Settings.{settings_legal}
use Rattle.tariff.specs.Terms.{term_of, has_month, entering_kw}
use Rattle.tariff.proofs.Sums.{when_is_true, when_le, when_zero, sum_ext, sum_le, sum_zero}
use Rattle.tariff.proofs.Limits.{limit_le_load}
use Rattle.tariff.proofs.Entering.{entering_step, entering_tier}
use Rattle.ledger.specs.Opening.{Opening, has_base}
use Rattle.ledger.specs.Ledger.{Ledger, empty_ledger, with_loads, with_rights, with_priors, with_evidence, with_tiers}
use Rattle.ledger.specs.Call.{Call, load, carry, prior, verify, migrate, open_tier, nominate, award, close_tier}
use Rattle.ledger.specs.Limits.{sum_at_base, nominated_at, limit_sums, tier_limit}
use Rattle.ledger.specs.Migration.{migrated}
use Rattle.tariff.specs.Ranges.{max_kw}
use Rattle.ledger.specs.Effects.{plus_at3, after_open, after_nominate, awards_after, after_close, effect}
use Rattle.ledger.specs.Season.{accepted, step, after}
use Rattle.ledger.specs.Totals.{contribution, no_contribution}
use Rattle.ledger.proofs.Steps.{step_keeps, after_keeps}
use Rattle.ledger.proofs.Columns.{column_plus}
use Rattle.ledger.proofs.Conserved.{in_place, awarded_sum, awarded_adds}
use Rattle.ledger.proofs.TierFacts.{nominate_facts, award_facts}
use Rattle.ledger.proofs.TiersSound.{TiersSound, other_tier, sound_step, sound_empty}
use Rattle.ledger.proofs.AtBase.{base_other}
use Rattle.ledger.proofs.WithinLimit.{WithinLimit, within_effect, within_step}
use Rattle.ledger.proofs.Once.{once_bound}
use Rattle.ledger.proofs.PostedOnce.{PostedOnce, once_effect, once_step, once_empty}

-- per base and tier, what all holders nominate
unfoldable pub nominated_sum : Opening → Ledger → ℕ → ℕ → ℕ
nominated_sum o L b t = sum_to o.holders (λ h. nominated_at o L h b t)

-- per base and tier: at most the most kW for each holder
abbrev pub NominatedBound : Opening → Ledger → Type 0
NominatedBound o L = (b t : ℕ) → nominated_sum o L b t ≤ o.holders * max_kw

tier_limit_le_load : (o : Opening) (L : Ledger) (t h b : ℕ) → settings_legal o.settings ≡ true → 1 ≤ t → tier_limit o L t h b ≤ L.loads.kw h b (term_of t)
unfolding tier_limit limit_sums
tier_limit_le_load o L t h b legal l = limit_le_load o.settings legal (limit_sums o L t h b) t l

-- in an open tier nominations are within limits, those within loads, and those are bounded
open_bound : (o : Opening) (L : Ledger) (b : ℕ) → settings_legal o.settings ≡ true → WithinLimit o L → PostedOnce o L → 1 ≤ L.tiers.current_tier → nominated_sum o L b L.tiers.current_tier ≤ o.holders * max_kw
unfolding nominated_sum
open_bound o L b legal w k is_open =
    let t = L.tiers.current_tier in
    le_trans (sum_le o.holders (λ h l. le_trans (w is_open h b) (tier_limit_le_load o L t h b legal is_open)))
    (once_bound o.holders (λ h. L.loads.kw h b (term_of t)) (λ h. L.loads.posted h b (term_of t)) (k.load_column b (term_of t)))

nominate_bound : (o : Opening) (L : Ledger) (x q kw : ℕ) → settings_legal o.settings ≡ true → TiersSound L.tiers → WithinLimit o L → PostedOnce o L → NominatedBound o L → accepted o L (nominate x q kw) ≡ true → NominatedBound o (effect o L (nominate x q kw))
unfolding effect with_tiers after_nominate nominated_sum nominated_at
nominate_bound o L x q kw legal k w one old e b t = go (eqb t L.tiers.current_tier) refl
  where
    c : Call
    c = nominate x q kw

    go : (d : Bool) → eqb t L.tiers.current_tier ≡ d → nominated_sum o (effect o L c) b t ≤ o.holders * max_kw
    go true d =
        subst (λ n. nominated_sum o (effect o L c) b n ≤ o.holders * max_kw) (sym (eqb-true t L.tiers.current_tier d))
        (open_bound o (effect o L c) b legal (within_effect o L c k w e) (once_effect o L c one e) (nominate_facts o L x q kw e).is_open)
    go false d =
        le_trans
        (le_of_eq
        (sum_ext {f = λ h. nominated_at o (effect o L c) h b t} {g = λ h. nominated_at o L h b t} o.holders (λ h l. base_other o b x q L.tiers.current_tier kw h t L.tiers.nominated (eqb-false t L.tiers.current_tier d))))
        (old b t)

-- a close only lowers nominations
close_bound : (o : Opening) (L : Ledger) → TiersSound L.tiers → NominatedBound o L → NominatedBound o (effect o L close_tier)
unfolding effect with_tiers after_close nominated_sum nominated_at sum_at_base when_true
close_bound o L k old b t =
    le_trans (sum_le o.holders (λ h l. sum_le o.paths (λ p m. lower (has_base o b p) h p (eqb t L.tiers.current_tier)))) (old b t)
  where
    lower : (there : Bool) (h p : ℕ) (d : Bool) → when_true there (cond d (L.tiers.awards h p t) (L.tiers.nominated h p t)) ≤ when_true there (L.tiers.nominated h p t)
    lower true h p true = k.awards_within h p t
    lower true h p false = le_refl (L.tiers.nominated h p t)
    lower false h p d = le_refl 0

nominated_effect : (o : Opening) (L : Ledger) (c : Call) → settings_legal o.settings ≡ true → TiersSound L.tiers → WithinLimit o L → PostedOnce o L → NominatedBound o L → accepted o L c ≡ true → NominatedBound o (effect o L c)
unfolding effect with_loads with_rights with_priors with_evidence with_tiers migrated after_open awards_after nominated_sum nominated_at
nominated_effect o L (load h s term contract n blocks) legal k w one old e = old
nominated_effect o L (carry h p kw) legal k w one old e = old
nominated_effect o L (prior h p a l) legal k w one old e = old
nominated_effect o L (verify h s kind capacity right first last mark) legal k w one old e = old
nominated_effect o L (migrate term sink lines) legal k w one old e = old
nominated_effect o L (open_tier tier) legal k w one old e = old
nominated_effect o L (nominate h p kw) legal k w one old e = nominate_bound o L h p kw legal k w one old e
nominated_effect o L (award h p kw) legal k w one old e = old
nominated_effect o L close_tier legal k w one old e = close_bound o L k old

-- per path, the awards of all holders in all tiers; the Long Term step's stand in no holding and are left out
unfoldable pub awards_sum : Opening → Ledger → ℕ → ℕ
awards_sum o L p = sum_to 10 (λ t. sum_to o.holders (λ h. L.tiers.awards h p t))

-- the awarded holdings are no more than the awards that they came from
abbrev pub AwardedBound : Opening → Ledger → Type 0
AwardedBound o L = (p m : ℕ) → awarded_sum o p m L ≤ awards_sum o L p

awards_grow : (o : Opening) (L : Ledger) (x q kw p : ℕ) → TiersSound L.tiers → accepted o L (award x q kw) ≡ true → awards_sum o (effect o L (award x q kw)) p ≡ awards_sum o L p + when_true (eqb p q) (entering_kw L.tiers.current_tier kw)
unfolding awards_sum effect with_tiers with_rights awards_after
awards_grow o L x q kw p s e = go (eqb L.tiers.current_tier 10) refl
  where
    k : ℕ
    k = L.tiers.current_tier

    f : ℕ → ℕ → ℕ → ℕ
    f = L.tiers.awards

    go : (b : Bool) → eqb k 10 ≡ b → sum_to 10 (λ t. sum_to o.holders (λ h. plus_at3 x q k kw f h p t)) ≡ awards_sum o L p + when_true (eqb p q) (entering_kw k kw)
    go true d =
        let ten = eqb-true k 10 d in
        let none = ap (when_true (eqb p q)) (entering_step k kw ten) ∙ when_zero (eqb p q) in
        let same = sum_ext {f = λ t. sum_to o.holders (λ h. plus_at3 x q k kw f h p t)} {g = λ t. sum_to o.holders (λ h. f h p t)} 10 (λ t l. sum_ext o.holders (λ h i. other_tier x q k kw f h p t (λ w. omega (arith, w)))) in
        omega arith
    go false d =
        let ne = eqb-false k 10 d in
        let top : k ≤ 10 = s.open_last in
        let last : k < 10 = omega (arith, ne) in
        sum_ext {f = λ t. sum_to o.holders (λ h. plus_at3 x q k kw f h p t)} {g = λ t. sum_to o.holders (λ h. f h p t) + when_true (eqb t k && eqb p q) kw} 10 (λ t l. in_place o x q k kw f p t (award_facts o L x q kw e).holder ∙ ap (λ b. sum_to o.holders (λ h. f h p t) + when_true b kw) (and_comm (eqb p q) (eqb t k)))
        ∙ column_plus (λ t. sum_to o.holders (λ h. f h p t)) 10 k (eqb p q) kw last
        ∙ ap (λ n. sum_to 10 (λ t. sum_to o.holders (λ h. f h p t)) + when_true (eqb p q) n) (sym (entering_tier k kw ne))

award_bound : (o : Opening) (L : Ledger) (x q kw : ℕ) → TiersSound L.tiers → AwardedBound o L → accepted o L (award x q kw) ≡ true → AwardedBound o (effect o L (award x q kw))
unfolding contribution no_contribution
award_bound o L x q kw k old e p m =
    let grown = awarded_adds o p m L (award x q kw) e in
    let more = awards_grow o L x q kw p k e in
    let before = old p m in
    let smaller = part (eqb p q) (has_month (term_of L.tiers.current_tier) m) in
    omega arith
  where
    in-kw : ℕ
    in-kw = entering_kw L.tiers.current_tier kw

    part : (a b : Bool) → when_true (a && b) in-kw ≤ when_true a in-kw
    part true b = le_trans (when_le b in-kw) (le_of_eq (sym (when_is_true in-kw refl)))
    part false b = le_refl (when_true false in-kw)

awarded_effect : (o : Opening) (L : Ledger) (c : Call) → TiersSound L.tiers → AwardedBound o L → accepted o L c ≡ true → AwardedBound o (effect o L c)
unfolding effect with_loads with_rights with_priors with_evidence with_tiers migrated after_open after_nominate after_close awards_sum contribution no_contribution
awarded_effect o L (load h s term contract n blocks) k old e p m = let a = awarded_adds o p m L (load h s term contract n blocks) e in let b = old p m in omega arith
awarded_effect o L (carry h q kw) k old e p m = let a = awarded_adds o p m L (carry h q kw) e in let b = old p m in omega arith
awarded_effect o L (prior h q a l) k old e p m = let a = awarded_adds o p m L (prior h q a l) e in let b = old p m in omega arith
awarded_effect o L (verify h s kind capacity right first last mark) k old e p m = let a = awarded_adds o p m L (verify h s kind capacity right first last mark) e in let b = old p m in omega arith
awarded_effect o L (migrate term sink lines) k old e p m = let a = awarded_adds o p m L (migrate term sink lines) e in let b = old p m in omega arith
awarded_effect o L (open_tier tier) k old e p m = let a = awarded_adds o p m L (open_tier tier) e in let b = old p m in omega arith
awarded_effect o L (nominate h q kw) k old e p m = let a = awarded_adds o p m L (nominate h q kw) e in let b = old p m in omega arith
awarded_effect o L (award h q kw) k old e p m = award_bound o L h q kw k old e p m
awarded_effect o L close_tier k old e p m = let a = awarded_adds o p m L close_tier e in let b = old p m in omega arith

-- all that is known of a ledger that calls lead to, as far as the bounds need it
pub record Bounded (o : Opening) (L : Ledger) : Type 0 where
  pub sound : TiersSound L.tiers
  pub within : WithinLimit o L
  pub once : PostedOnce o L
  pub nominations : NominatedBound o L
  pub awards : AwardedBound o L

bounded_step : (o : Opening) → settings_legal o.settings ≡ true → (L : Ledger) (c : Call) → Bounded o L → Bounded o (step o L c)
bounded_step o legal L c k =
    record {
      sound = sound_step o L c k.sound;
      within = within_step o L c k.sound k.within;
      once = once_step o L c k.once;
      nominations = step_keeps (NominatedBound o) o L c k.nominations (nominated_effect o L c legal k.sound k.within k.once k.nominations);
      awards = step_keeps (AwardedBound o) o L c k.awards (awarded_effect o L c k.sound k.awards);
    }

bounded_empty : (o : Opening) → Bounded o empty_ledger
unfolding empty_ledger nominated_sum nominated_at sum_at_base awarded_sum
bounded_empty o =
    record {
      sound = sound_empty;
      within = λ is_open. absurd (let z : ⊥ = omega arith in z);
      once = once_empty o;
      nominations = λ b t. le_trans (le_of_eq (sum_zero o.holders (λ h l. sum_zero o.paths (λ p i. when_zero (has_base o b p))))) zero-le;
      awards = λ p m. le_trans (le_of_eq (sum_zero o.holders (λ h l. refl))) zero-le;
    }

-- it holds after every list of calls, whatever the legal settings
pub bounded : (o : Opening) → settings_legal o.settings ≡ true → (cs : List Call) → Bounded o (after o cs)
bounded o legal cs = after_keeps (Bounded o) o (bounded_step o legal) (bounded_empty o) cs
