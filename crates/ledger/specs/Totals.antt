-- Sums over the accepted calls of a list (01, The plain ledger; 02, 1/14): what the holdings, loads and nominations are held against.
use Rattle.std.specs.Prelude.{ℕ, ◌+◌, Bool, true, false, cond, ◌&&◌, List, [], ◌∷◌, eqb}
use Rattle.tariff.specs.Sum.{when_true}
use Rattle.load_metric.specs.Load.{load_posted}
use Rattle.tariff.specs.Terms.{term_of, has_month, entering_kw}
use Rattle.ledger.specs.Opening.{Opening, has_base}
use Rattle.ledger.specs.Call.{Call, load, carry, prior, verify, migrate, open_tier, nominate, award, close_tier}
use Rattle.ledger.specs.Ledger.{Ledger, empty_ledger}
use Rattle.ledger.specs.Season.{accepted, step}

-- an amount of each accepted call, read beside the ledger before it, summed along a list
unfoldable pub sum_accepted : (Ledger → Call → ℕ) → Opening → Ledger → List Call → ℕ
sum_accepted amount o L [] = 0
sum_accepted amount o L (c ∷ cs) = when_true (accepted o L c) (amount L c) + sum_accepted amount o (step o L c) cs

-- what an accepted call adds to each sum of the list, and whether it ends the open tier
pub record Contribution : Type 0 where
  -- carried in, by path
  pub carried : ℕ → ℕ
  -- awarded, by path and month
  pub awarded : ℕ → ℕ → ℕ
  -- load posted, by sink and term
  pub posted : ℕ → ℕ → ℕ
  -- nominated, by holder and base
  pub nominated : ℕ → ℕ → ℕ
  pub closes : Bool

-- no kW whatever the path, and whatever the pair
abbrev none : ℕ → ℕ
none x = 0

abbrev neither : ℕ → ℕ → ℕ
neither x y = 0

unfoldable pub no_contribution : Contribution
no_contribution = record { carried = none; awarded = neither; posted = neither; nominated = neither; closes = false }

-- 01, The plain ledger: a load posts at its sink and term, a carry brings in on its path, an award counts on its path in tiers 1 to 3 for every month and else for
-- the tier's own, but in the Long Term step for none; a nomination counts at its path's base, a close ends the tier; the other calls add nothing
unfoldable pub contribution : Opening → Ledger → Call → Contribution
contribution o L (load h s term contract n blocks) = record { carried = none; awarded = neither; posted = λ q t. when_true (eqb q s && eqb t term) (load_posted o.settings contract blocks); nominated = neither; closes = false }
contribution o L (carry h p kw) = record { carried = λ q. when_true (eqb q p) kw; awarded = neither; posted = neither; nominated = neither; closes = false }
contribution o L (prior h p a l) = no_contribution
contribution o L (verify h s kind capacity right first last mark) = no_contribution
contribution o L (migrate term sink lines) = no_contribution
contribution o L (open_tier tier) = no_contribution
contribution o L (nominate h p kw) = record { carried = none; awarded = neither; posted = neither; nominated = λ x b. when_true (eqb x h && has_base o b p) kw; closes = false }
contribution o L (award h p kw) = record { carried = none; awarded = λ q m. when_true (eqb q p && has_month (term_of L.tiers.current_tier) m) (entering_kw L.tiers.current_tier kw); posted = neither; nominated = neither; closes = false }
contribution o L close_tier = record { carried = none; awarded = neither; posted = neither; nominated = neither; closes = true }

-- MW carried in on a path, MW awarded on a path for a month, load posted at a sink and term, from the book's opening on
unfoldable pub carried_in : Opening → List Call → ℕ → ℕ
carried_in o cs p = sum_accepted (λ L c. (contribution o L c).carried p) o empty_ledger cs

unfoldable pub awarded_in : Opening → List Call → ℕ → ℕ → ℕ
awarded_in o cs p m = sum_accepted (λ L c. (contribution o L c).awarded p m) o empty_ledger cs

unfoldable pub posted_in : Opening → List Call → ℕ → ℕ → ℕ
posted_in o cs s t = sum_accepted (λ L c. (contribution o L c).posted s t) o empty_ledger cs

-- the calls of a list up to the first close that is accepted, or all of them
unfoldable pub until_close : Opening → Ledger → List Call → List Call
until_close o L [] = []
until_close o L (c ∷ cs) = cond ((contribution o L c).closes && accepted o L c) [] (c ∷ until_close o (step o L c) cs)

-- what a holder nominated at a base in the tier that the ledger has just opened: from there to the tier's close, or so far
unfoldable pub nominated_in : Opening → Ledger → List Call → ℕ → ℕ → ℕ
nominated_in o opened cs h b = sum_accepted (λ L c. (contribution o L c).nominated h b) o opened (until_close o opened cs)
