-- What the reading of a holding needs of the figures: the slots of its month are there, and what stands in them is small.
use Rattle.std.specs.Prelude.{ℕ, ◌≤◌, ◌<◌, List}
use Rattle.tariff.specs.Sizes.{last_month}
use Rattle.slots.specs.Cells.{max_holders, max_places, read_at}
use Rattle.slots.specs.Layout.{figure_slots}
use Rattle.slots.specs.Sums.{max_figure}

pub record HasHolding (f : List ℕ) (h p month : ℕ) : Type 0 where
  pub holder : h < max_holders
  pub place : p < max_places
  pub low : 1 ≤ month
  pub high : month ≤ last_month
  pub each : (slot : ℕ) → slot < figure_slots → read_at figure_slots 0 f h p slot ≤ max_figure
