-- What a sum over the paths needs: there are few paths, the base of each is kept, and each figure is small.
use Rattle.records.specs.declared.setup.KeptOpening.{KeptOpening}
use Rattle.std.specs.Prelude.{ℕ, ◌*◌, ◌≤◌, ◌<◌, List}
use Rattle.tariff.specs.Ranges.{max_kw}
use Rattle.records.specs.Opening.{opening_in, KeepsBases}
use Rattle.slots.specs.Cells.{max_holders, max_places, read_at}
use Rattle.slots.specs.Layout.{figure_slots}

-- a holder's figures in a slot
abbrev pub on_path : List ℕ → (h slot : ℕ) → ℕ → ℕ
on_path f h slot p = read_at figure_slots 0 f h p slot

-- no figure that is summed is above this
abbrev pub max_figure : ℕ
max_figure = 10 * (max_holders * max_kw)

pub record Summable (o : KeptOpening) (f : List ℕ) (h slot : ℕ) : Type 0 where
  pub bases : KeepsBases o
  pub few : (opening_in o).paths ≤ max_places
  pub holder : h < max_holders
  pub in_row : slot < figure_slots
  pub each : (p : ℕ) → p < (opening_in o).paths → on_path f h slot p ≤ max_figure
