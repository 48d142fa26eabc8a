-- The row where a set line may stand: it is the first of what is left. Assumes nothing.
use Prim.Native.Nat.{ℕ}
use mathlib.Core.Path.{◌≡◌, refl}
use mathlib.Core.List.{List, [], ◌∷◌, map}
use lib.ListN.{get_or}
use Rattle.lines.specs.Text.{Line, lines_of}
use Rattle.lines.specs.Rows.{unreadable_row, row_of, rows_of}
use Rattle.lines.specs.Reading.{first_row, next_row}

-- the next row is the first, and that of an unreadable line where none is left
pub next_first : (s : List ℕ) → (next_row s).row ≡ get_or (rows_of s) 0 unreadable_row
unfolding next_row rows_of first_row
next_first s = go (lines_of s)
  where
    go : (lines : List Line) → first_row lines ≡ get_or (map row_of lines) 0 unreadable_row
    go [] = refl
    go (line ∷ lines) = refl
