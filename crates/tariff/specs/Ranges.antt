-- Ranges of the numbers that the rules take (cause 3).
use Rattle.std.specs.Prelude.{ℕ, Bool, not, ◌&&◌, leb, ltb}
use Rattle.tariff.specs.Sizes.{last_term}
use Rattle.tariff.specs.Terms.{is_month}

-- no kW is above this one, and that of carry, prior's a, capacity, nominate and award is 1 or more
abbrev pub max_kw : ℕ
max_kw = 99999999

unfoldable pub within : ℕ → ℕ → ℕ → Bool
within low high x = leb low x && leb x high

unfoldable pub kw_out_of_range : ℕ → Bool
kw_out_of_range kw = not (within 1 max_kw kw)

unfoldable pub term_out_of_range : ℕ → Bool
term_out_of_range term = ltb last_term term

unfoldable pub month_out_of_range : ℕ → Bool
month_out_of_range m = not (is_month m)
