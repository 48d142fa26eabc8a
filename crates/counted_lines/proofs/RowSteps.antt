-- The first row of a script that has one, by the script's length. Assumes nothing.
use Prim.Native.Nat.{ℕ, ◌≤◌, zero-le}
use mathlib.Core.Path.{◌≡◌}
use mathlib.Core.List.{List, [], ◌∷◌}
use native.Mathlib.Omega.{arith}
use lib.ListN.{length, drop}
use Rattle.lines.specs.Text.{lines_of}
use Rattle.lines.specs.Rows.{rows_of}
use Rattle.lines.specs.Reading.{first_bytes, next_row}
use Rattle.lines.proofs.NextRowLaws.{next_rows, next_some, next_fits}

pub first_row_lem : (s : List ℕ) → 1 ≤ length s → rows_of s ≡ ((next_row s).row ∷ rows_of (drop (next_row s).consumed s))
first_row_lem [] l = absurd (let z : ⊥ = omega arith in z)
first_row_lem (b ∷ bytes) l = next_rows b bytes

pub consumed_some : (s : List ℕ) → 1 ≤ length s → 1 ≤ (next_row s).consumed
consumed_some [] l = absurd (let z : ⊥ = omega arith in z)
consumed_some (b ∷ bytes) l = next_some b bytes

pub consumed_within : (s : List ℕ) → (next_row s).consumed ≤ length s
unfolding next_row lines_of first_bytes
consumed_within [] = zero-le
consumed_within (b ∷ bytes) = next_fits b bytes
