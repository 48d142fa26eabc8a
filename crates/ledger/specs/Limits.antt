-- The sums that a limit is made of, and the limit of a holder at a base in a tier (01, Limits; 02, 1/14 and 3/14).
use Rattle.std.specs.Prelude.{ℕ, ◌-◌, eqb}
use Rattle.tariff.specs.Sum.{when_true, sum_to}
use Rattle.tariff.specs.Terms.{term_of, carried_month, is_long_term_step}
use Rattle.tariff.specs.declared.limit.Sums.{Sums}
use Rattle.tariff.specs.Limit.{limit_of_sums}
use Rattle.ledger.specs.Opening.{Opening, obaalse, holder_kind, has_base}
use Rattle.ledger.specs.Ledger.{Ledger}
use Rattle.ledger.specs.TenYear.{ten_year_sum}

-- f summed over the paths whose sink has this base
unfoldable pub sum_at_base : Opening → ℕ → (ℕ → ℕ) → ℕ
sum_at_base o b f = sum_to o.paths (λ p. when_true (has_base o b p) (f p))

-- LT: the holder's carried holding there in a month
unfoldable pub long_term_at : Opening → Ledger → ℕ → ℕ → ℕ → ℕ
long_term_at o L h b month = sum_at_base o b (λ p. L.rights.carried h p month)

-- the holder's allocation of last year there: the sum of a
unfoldable pub prior_year_at : Opening → Ledger → ℕ → ℕ → ℕ
prior_year_at o L h b = sum_at_base o b (λ p. L.priors.allocated h p)

-- Tn: the holder's awards there in tier n
unfoldable pub awards_at : Opening → Ledger → ℕ → ℕ → ℕ → ℕ
awards_at o L h b tier = sum_at_base o b (λ p. L.tiers.awards h p tier)

-- what the holder has nominated there in a tier
unfoldable pub nominated_at : Opening → Ledger → ℕ → ℕ → ℕ → ℕ
nominated_at o L h b tier = sum_at_base o b (λ p. L.tiers.nominated h p tier)

-- ten-year evidence counts in the Long Term step alone
unfoldable pub limit_sums : Opening → Ledger → ℕ → ℕ → ℕ → Sums
limit_sums o L tier h b =
    record {
      load = L.loads.kw h b (term_of tier);
      carried = long_term_at o L h b (carried_month (term_of tier));
      prior = prior_year_at o L h b;
      tier1 = awards_at o L h b 1;
      tier2 = awards_at o L h b 2;
      tier3 = awards_at o L h b 3;
      before = awards_at o L h b (tier - 1);
      ten_year_kw = when_true (is_long_term_step tier) (ten_year_sum o L h);
      obaalse = eqb (holder_kind o h) obaalse;
    }

-- the limit on what a holder nominates at a base in a tier, by the book's settings
unfoldable pub tier_limit : Opening → Ledger → ℕ → ℕ → ℕ → ℕ
tier_limit o L tier h b = limit_of_sums o.settings tier (limit_sums o L tier h b)
