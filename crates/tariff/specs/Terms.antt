-- Terms, months and tiers (01, The book; 02, 1/14). Term 0 is the season, terms 1 to 3 are its months.
use Rattle.std.specs.Prelude.{ℕ, ◌+◌, ◌*◌, ◌-◌, Bool, cond, not, ◌&&◌, ◌||◌, List, [], ◌∷◌, get_or, leb, eqb}
use Rattle.tariff.specs.Sizes.{last_month, long_term_step}
use Rattle.tariff.specs.Sum.{when_true}

-- the table from tier to term, tier 1 first
unfoldable pub term_table : List ℕ
term_table = 0 ∷ 0 ∷ 0 ∷ 1 ∷ 1 ∷ 2 ∷ 2 ∷ 3 ∷ 3 ∷ []

-- a number that the table does not have is the season's: the Long Term step is (02, 1/14)
unfoldable pub term_of : ℕ → ℕ
term_of tier = get_or term_table (tier - 1) 0

-- the tier whose opening ends the postings for a term: tier 1 for the season, tier 2k + 2 for month k
unfoldable pub first_tier_of : ℕ → ℕ
first_tier_of term = cond (eqb term 0) 1 (2 * term + 2)

unfoldable pub is_month : ℕ → Bool
is_month m = leb 1 m && leb m last_month

-- the months that a term has: all three for the season, else the one
unfoldable pub has_month : ℕ → ℕ → Bool
has_month term m = is_month m && (eqb term 0 || eqb term m)

-- a tier's number is the Long Term step's (02, 1/14)
unfoldable pub is_long_term_step : ℕ → Bool
is_long_term_step tier = eqb tier long_term_step

-- what an award of kw adds to the holding of a month of its tier's term: all of it, but the step's awards change no holding (02, 1/14)
unfoldable pub entering_kw : ℕ → ℕ → ℕ
entering_kw tier kw = when_true (not (is_long_term_step tier)) kw

-- the month whose carried rights count in a term's limits: month 1 for the season (01, Limits, LT)
unfoldable pub carried_month : ℕ → ℕ
carried_month term = cond (eqb term 0) 1 term
