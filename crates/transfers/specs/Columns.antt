-- Columns of the figures: what the eight holders have in one slot at one place.
use Rattle.std.specs.Prelude.{ℕ, zero, suc, ◌<◌, List}
use Rattle.netting.specs.Netting.{holder_at, column_cells}
use Rattle.slots.specs.Cells.{max_places, read_at, stored_at, Shows}
use Rattle.slots.specs.Layout.{figure_slots}

-- a place and a slot that have a column
pub record HasColumn (p slot : ℕ) : Type 0 where
  pub place : p < max_places
  pub in_row : slot < figure_slots

-- a column of the figures, and as a list of eight numbers
abbrev pub in_column : List ℕ → (p slot : ℕ) → ℕ → ℕ
in_column f p slot h = read_at figure_slots 0 f h p slot

unfoldable pub column_at : List ℕ → (p slot : ℕ) → List ℕ
column_at f p slot = column_cells (in_column f p slot)

-- the figures with the first n entries of a column stored
unfoldable pub column_stored : List ℕ → (p slot : ℕ) → List ℕ → ℕ → List ℕ
column_stored f p slot column zero = f
column_stored f p slot column (suc n) = stored_at figure_slots (column_stored f p slot column n) n p slot (holder_at column n)

-- each column of the figures is put through a function of its place and slot, and the numbers after the figures stay
abbrev pub ColumnTransfer : (ℕ → ℕ → (ℕ → ℕ) → ℕ → ℕ) → List ℕ → List ℕ → Type 0
ColumnTransfer column f f' = (g : ℕ → ℕ → ℕ → ℕ) (rest : List ℕ) → Shows figure_slots 0 f g rest → Shows figure_slots 0 f' (λ h p slot. column p slot (λ i. g i p slot) h) rest
