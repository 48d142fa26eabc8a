-- Lines kept in the front of an array. Assumes nothing.
use Prim.Native.Nat.{suc, ◌≤◌}
use mathlib.Core.Path.{◌≡◌, refl, ap, ◌∙◌}
use mathlib.Core.List.{List, [], ◌∷◌, ◌++◌}
use native.Mathlib.Omega.{arith}
use lib.ListN.{length, take, drop, set}
use lib.Seq.{take_all, take-append-le}
use Rattle.counted_lines.specs.Counted.{with_lines}

module _ {T : Type 0} where
  -- before any line is read the array is as it was
  pub none_kept : (array : List T) → array ≡ with_lines [] array
  unfolding with_lines
  none_kept [] = refl
  none_kept (x ∷ array) = refl

  -- a line more is put after those that are there, and where there is no room nothing is
  pub one_kept : (lines : List T) (line : T) (array : List T) → set (with_lines lines array) (length lines) line ≡ with_lines (lines ++ (line ∷ [])) array
  unfolding with_lines
  one_kept [] line [] = refl
  one_kept [] line (x ∷ []) = refl
  one_kept [] line (x ∷ y ∷ array) = refl
  one_kept (a ∷ lines) line [] = refl
  one_kept (a ∷ lines) line (x ∷ array) = ap (λ t. a ∷ t) (one_kept lines line array)

  -- where there is room for all lines they stand in front
  pub all_kept : (lines array : List T) → length lines ≤ length array → take (length lines) (with_lines lines array) ≡ lines
  unfolding with_lines
  all_kept lines array fits =
      ap (λ front. take (length lines) (front ++ drop (length lines) array)) (take_all (length array) lines fits)
      ∙ take-append-le (length lines) lines (drop (length lines) array) (omega arith)
      ∙ take_all (length lines) lines (omega arith)

  -- and the array keeps its length
  pub same_long : (lines array : List T) → length (with_lines lines array) ≡ length array
  unfolding with_lines
  same_long [] [] = refl
  same_long [] (x ∷ array) = refl
  same_long (a ∷ lines) [] = refl
  same_long (a ∷ lines) (x ∷ array) = ap suc (same_long lines array)
