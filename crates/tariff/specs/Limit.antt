-- The limit on a holder's nominations at a base in a tier, by the book's settings (01, Limits; 02, 1/14 and 3/14). Differences end at 0.
use Rattle.std.specs.Prelude.{ℕ, ◌+◌, ◌-◌, ◌%◌, min, cond, ltb, eqb}
use Rattle.tariff.specs.declared.settings.Settings.{Settings}
use Rattle.tariff.specs.declared.limit.Sums.{Sums}
use Rattle.tariff.specs.declared.limit.Formula.{Formula}
use Rattle.tariff.specs.declared.limit.Formula.TheVariants.{First, Second, Third, Even, Odd, LongTerm}
use Rattle.tariff.specs.declared.limit.TierRule.{TierRule}
use Rattle.tariff.specs.Eligible.{seasonal_eligible, priority_eligible, eligible_without_evidence, eligible_with_evidence}
use Rattle.tariff.specs.Terms.{term_of, is_long_term_step}
use Rattle.tariff.specs.Ranges.{within}
use Rattle.tariff.specs.Sizes.{last_season_tier}

-- tier 1: the least of P, last year's allocation and the sixth fraction of the load, each − LT (02, 3/14)
unfoldable pub limit_tier1 : Settings → Sums → ℕ
limit_tier1 settings s =
    min (min (priority_eligible settings s.load - s.carried) (s.prior - s.carried)) (eligible_with_evidence settings s.load - s.carried)

-- tier 2: P − T1 − LT
unfoldable pub limit_tier2 : Settings → Sums → ℕ
limit_tier2 settings s = priority_eligible settings s.load - s.tier1 - s.carried

-- tier 3: S − T1 − T2 − LT
unfoldable pub limit_tier3 : Settings → Sums → ℕ
limit_tier3 settings s = seasonal_eligible settings s.load - s.tier1 - s.tier2 - s.carried

-- tiers 4, 6 and 8: A − (T1 + T2 + T3) − LT of the month
unfoldable pub limit_even_tier : Sums → ℕ
limit_even_tier s = s.load - (s.tier1 + s.tier2 + s.tier3) - s.carried

-- tiers 5, 7 and 9: the same less the awards of the tier just before
unfoldable pub limit_odd_tier : Sums → ℕ
limit_odd_tier s = limit_even_tier s - s.before

-- the Long Term step, with ten-year evidence above the fifth fraction of the load: that evidence, and at most the sixth fraction (02, 1/14)
unfoldable pub eligible_by_evidence : Settings → Sums → ℕ
eligible_by_evidence settings s = min s.ten_year_kw (eligible_with_evidence settings s.load)

-- the Long Term step, an LSE: by its evidence where that is above the fifth fraction of its load, else that fraction (02, 1/14)
unfoldable pub long_term_of_lse : Settings → Sums → ℕ
long_term_of_lse settings s =
    cond (ltb (eligible_without_evidence settings s.load) s.ten_year_kw) (eligible_by_evidence settings s) (eligible_without_evidence settings s.load)

-- the part of a holder's load that the Long Term step is for: of an OBAALSE the sixth fraction of it (02, 1/14)
unfoldable pub long_term_eligible : Settings → Sums → ℕ
long_term_eligible settings s = cond s.obaalse (eligible_with_evidence settings s.load) (long_term_of_lse settings s)

-- the Long Term step: this part − LT (02, 1/14)
unfoldable pub limit_long_term : Settings → Sums → ℕ
limit_long_term settings s = long_term_eligible settings s - s.carried

unfoldable pub limit_by : Settings → Formula → Sums → ℕ
limit_by settings First s = limit_tier1 settings s
limit_by settings Second s = limit_tier2 settings s
limit_by settings Third s = limit_tier3 settings s
limit_by settings Even s = limit_even_tier s
limit_by settings Odd s = limit_odd_tier s
limit_by settings LongTerm s = limit_long_term settings s

-- the formula is chosen by the tier's number: 1; 2 and 3; the Long Term step; an even tier; an odd one
unfoldable pub formula_of : ℕ → Formula
formula_of tier = cond (eqb tier 1) First (cond (within 2 last_season_tier tier) (cond (eqb tier 2) Second Third) (cond (is_long_term_step tier) LongTerm (cond (eqb (tier % 2) 0) Even Odd)))

-- and so is the term whose load it takes
unfoldable pub rule_of : ℕ → TierRule
rule_of tier = record { formula = formula_of tier; term = term_of tier }

unfoldable pub limit_of_sums : Settings → ℕ → Sums → ℕ
limit_of_sums settings tier s = limit_by settings (formula_of tier) s
