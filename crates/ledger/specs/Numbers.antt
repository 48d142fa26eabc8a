-- The numbers of the causes that a call or a query can meet (01, Refusals by cause; 02), and the first cause of a list that is met.
-- 1 is met by lists of unequal length and by the script; 15 belongs to the host; 16 is the opening's.
use Rattle.std.specs.Prelude.{ℕ, Bool, cond, List, [], ◌∷◌}
-- the tariff's rules on numbers can meet these four, so they are named there
pub use Rattle.tariff.specs.Numbers.{unreadable, out_of_range, broken_blocks, hours_missing}

-- a holder, source, sink or path is not in the book
abbrev pub not_in_book : ℕ
not_in_book = 2

-- not at this time
abbrev pub not_at_this_time : ℕ
not_at_this_time = 4

-- posted before
abbrev pub posted_before : ℕ
posted_before = 5

-- a class line from a holder to itself, or with a holder of kind 2
abbrev pub not_between_lses : ℕ
not_between_lses = 8

-- a loser's m together exceed its load
abbrev pub loss_above_load : ℕ
loss_above_load = 9

-- the sink is not for this holder, or not for this call
abbrev pub sink_ineligible : ℕ
sink_ineligible = 10

-- above the verified kW of a source that has evidence for the tier's term
abbrev pub above_verified : ℕ
above_verified = 11

-- above the path's a − l in tier 1
abbrev pub above_prior : ℕ
above_prior = 12

-- above the tier's limit
abbrev pub above_limit : ℕ
above_limit = 13

-- an award above what is nominated and unawarded
abbrev pub above_nominated : ℕ
above_nominated = 14

-- in the Long Term step, above the holder's tier 1 award on the path (02, 1/14)
abbrev pub above_tier1_award : ℕ
above_tier1_award = 17

-- in the Long Term step, a source without ten-year evidence (02, 1/14)
abbrev pub no_ten_year_evidence : ℕ
no_ten_year_evidence = 18

-- no evidence of the source for the tier's term (02, 2/14)
abbrev pub unverified : ℕ
unverified = 19

-- a kind, parent, path, count or fraction of the opening breaks the rules
abbrev pub breaks_rules : ℕ
breaks_rules = 16

-- a cause: its number, and whether the call meets it
pub data Cause : Type 0 where
  cause : ℕ → Bool → Cause

-- the number of the first cause that is met, 0 where none is
unfoldable pub first_met : List Cause → ℕ
first_met [] = 0
first_met (cause number met ∷ later) = cond met number (first_met later)
