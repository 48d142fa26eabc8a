-- Flat arrays by holder, place and slot. A place is a sink, a path or a source; the slots of a holder at a place stand side by side.
use Rattle.std.specs.Prelude.{ℕ, zero, suc, ◌+◌, ◌*◌, ◌/◌, ◌%◌, ◌<◌, ◌≡◌, cond, ◌&&◌, List, ◌++◌, length, get_or, set, ltb}
pub use Rattle.tariff.specs.Sizes.{max_holders, max_places}
use Rattle.tariff.specs.Sum.{tabulate}

-- how many pairs of a holder and a place there are
abbrev pub rows : ℕ
rows = max_holders * max_places

-- the cell of a holder, a place and a slot
unfoldable pub cell_of : ℕ → ℕ → ℕ → ℕ → ℕ
cell_of width h p slot = (h * max_places + p) * width + slot

pub record HasCell (width h p slot : ℕ) : Type 0 where
  pub holder : h < max_holders
  pub place : p < max_places
  pub in_row : slot < width

-- a number is the cell of a holder, a place and a slot, and below the end of the cells
pub record IsCell (width h p slot r : ℕ) : Type 0 where
  pub is : r ≡ cell_of width h p slot
  pub below : r < rows * width

module _ {A : Type 0} where
  -- what stands in a cell
  unfoldable pub read_at : ℕ → A → List A → ℕ → ℕ → ℕ → A
  read_at width none cells h p slot = get_or cells (cell_of width h p slot) none

  -- what stands in a cell, and none where there is no cell
  unfoldable pub look_at : ℕ → A → List A → ℕ → ℕ → ℕ → A
  look_at width none cells h p slot = cond (ltb h max_holders && ltb p max_places && ltb slot width) (read_at width none cells h p slot) none

  -- an array with one cell stored
  unfoldable pub stored_at : ℕ → List A → ℕ → ℕ → ℕ → A → List A
  stored_at width cells h p slot v = set cells (cell_of width h p slot) v

  -- the array of a function of holder, place and slot, with a rest after its cells
  unfoldable pub array_of : ℕ → (ℕ → ℕ → ℕ → A) → List A → List A
  array_of width f rest = tabulate (rows * width) (λ k. f (k / width / max_places) (k / width % max_places) (k % width)) ++ rest

  -- an array shows a function: what stands in each cell is the function's value, and the rest stands after the cells
  pub record Shows (width : ℕ) (none : A) (cells : List A) (f : ℕ → ℕ → ℕ → A) (rest : List A) : Type 0 where
    pub sized : length cells ≡ rows * width + length rest
    pub each : (h p slot : ℕ) → HasCell width h p slot → read_at width none cells h p slot ≡ f h p slot
    pub tail : (k : ℕ) → get_or cells (rows * width + k) none ≡ get_or rest k none

-- a slot put to 0 in the first n rows
unfoldable pub cleared_to : ℕ → ℕ → List ℕ → ℕ → List ℕ
cleared_to width slot cells zero = cells
cleared_to width slot cells (suc n) = set (cleared_to width slot cells n) (n * width + slot) 0

-- kW more in one cell
unfoldable pub added_at : ℕ → List ℕ → ℕ → ℕ → ℕ → ℕ → List ℕ
added_at width cells h p slot kw = stored_at width cells h p slot (read_at width 0 cells h p slot + kw)
