-- When a call can run (01, Posting, Migration and Tiers; 02, 1/14; cause 4).
use Rattle.std.specs.Prelude.{ℕ, suc, Bool, cond, not, ◌&&◌, ◌||◌, leb, ltb, eqb}
use Rattle.tariff.specs.Sizes.{last_season_tier}
use Rattle.tariff.specs.Terms.{first_tier_of, is_long_term_step}
use Rattle.ledger.specs.Ledger.{Ledger}

-- a tier is open: only nominate, award, close and queries run, and these three calls only then
unfoldable pub tier_is_open : Ledger → Bool
tier_is_open L = not (eqb L.tiers.current_tier 0)

-- no tier is open, and this one has never been
unfoldable pub before_tier : ℕ → Ledger → Bool
before_tier tier L = not (tier_is_open L) && ltb L.tiers.last_closed tier

-- load: the season's before tier 1 opens, month k's before tier 2k + 2
unfoldable pub load_in_time : ℕ → Ledger → Bool
load_in_time term L = before_tier (first_tier_of term) L

-- migration: as load, and for a month only after tier 3 closes
unfoldable pub migration_in_time : ℕ → Ledger → Bool
migration_in_time term L = before_tier (first_tier_of term) L && (eqb term 0 || leb last_season_tier L.tiers.last_closed)

-- the Long Term step comes between tiers 1 and 2, and once (02, 1/14)
unfoldable pub step_in_time : Ledger → Bool
step_in_time L = eqb L.tiers.last_closed 1 && not L.tiers.step_held

-- open: no other tier is, and this is the one after the last closed, or the step at its time
unfoldable pub is_next_tier : ℕ → Ledger → Bool
is_next_tier tier L = not (tier_is_open L) && cond (is_long_term_step tier) (step_in_time L) (eqb tier (suc L.tiers.last_closed))
