-- kW added in the months of a term: a slot to a month, month 1 first.
use Rattle.std.specs.Prelude.{ℕ, ◌+◌, ◌^◌, ◌≤◌, ◌<◌, List}
use Rattle.tariff.specs.Sum.{when_true}
use Rattle.tariff.specs.Terms.{has_month}
use Rattle.slots.specs.Cells.{max_holders, max_places, read_at, added_at}
use Rattle.slots.specs.Layout.{figure_slots}

unfoldable pub added_in_term : List ℕ → (h p from term kw : ℕ) → List ℕ
added_in_term f h p from term kw =
    added_at figure_slots
    (added_at figure_slots
    (added_at figure_slots f h p from (when_true (has_month term 1) kw))
    h p (from + 1) (when_true (has_month term 2) kw))
    h p (from + 2) (when_true (has_month term 3) kw)

-- figures whose slots from one on have room for kW more
pub record HasRoom (f : List ℕ) (h p first past kw : ℕ) : Type 0 where
  pub holder : h < max_holders
  pub place : p < max_places
  pub in_row : past ≤ figure_slots
  pub room : (slot : ℕ) → first ≤ slot → slot < past → read_at figure_slots 0 f h p slot + kw < 2 ^ 64
