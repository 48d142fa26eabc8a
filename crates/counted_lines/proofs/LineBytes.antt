-- The bytes of lines: what they leave, and how they add up. Assumes nothing.
use Prim.Native.Nat.{ℕ, zero, suc, ◌+◌, ◌-◌, ◌≤◌, zero-le}
use mathlib.Core.Path.{◌≡◌, refl, sym, ap, ◌∙◌}
use mathlib.Core.List.{List, [], ◌∷◌}
use native.Mathlib.Nat.{le_trans, le_of_eq, zero-add, suc-add}
use native.Mathlib.Omega.{arith}
use lib.ListN.{length, take, drop, length-drop, drop_of_length-le}
use lib.Seq.{drop-drop, take_all}
use Rattle.lines.specs.Text.{lines_of}
use Rattle.lines.specs.Rows.{rows_of}
use Rattle.lines.specs.Reading.{next_row}
use Rattle.counted_lines.specs.Counted.{bytes_of_lines}
use Rattle.counted_lines.proofs.RowSteps.{first_row_lem, consumed_within}

-- lines and those after them
pub bytes_add : (m n : ℕ) (s : List ℕ) → bytes_of_lines (m + n) s ≡ bytes_of_lines m s + bytes_of_lines n (drop (bytes_of_lines m s) s)
unfolding bytes_of_lines
bytes_add zero n s = ap (λ k. bytes_of_lines k s) (zero-add n) ∙ sym (zero-add (bytes_of_lines n s))
bytes_add (suc m) n s =
    let u = (next_row s).consumed in
    let later = bytes_add m n (drop u s) in
    let place = ap (λ t. bytes_of_lines n t) (drop-drop (bytes_of_lines m (drop u s)) u s) in
    ap (λ k. bytes_of_lines k s) (suc-add m n) ∙ omega arith

-- lines take no more bytes than there are
pub bytes_within : (n : ℕ) (s : List ℕ) → bytes_of_lines n s ≤ length s
unfolding bytes_of_lines
bytes_within zero s = omega arith
bytes_within (suc n) s =
    let later = bytes_within n (drop (next_row s).consumed s) in
    let left = length-drop (next_row s).consumed s in
    let first = consumed_within s in
    omega arith

none_left : (n : ℕ) → drop {A = ℕ} n [] ≡ []
none_left n = drop_of_length-le {A = ℕ} [] {i = n} zero-le

no_rows : (n : ℕ) → rows_of [] ≡ drop (suc n) (rows_of [])
unfolding rows_of lines_of
no_rows n = refl

-- what is left after lines has the rows after them
pub rows_after : (n : ℕ) (s : List ℕ) → rows_of (drop (bytes_of_lines n s) s) ≡ drop n (rows_of s)
unfolding bytes_of_lines
rows_after zero s = refl
rows_after (suc n) [] = ap rows_of (none_left ((next_row []).consumed + bytes_of_lines n (drop (next_row []).consumed []))) ∙ no_rows n
rows_after (suc n) (b ∷ s) =
    let u = (next_row (b ∷ s)).consumed in
    ap rows_of (sym (drop-drop (bytes_of_lines n (drop u (b ∷ s))) u (b ∷ s)))
    ∙ rows_after n (drop u (b ∷ s))
    ∙ sym (ap (drop (suc n)) (first_row_lem (b ∷ s) (omega arith)))

-- what is left of the bytes after so many lines
module _ (s : List ℕ) (n u : ℕ) (here : u ≡ bytes_of_lines n s) where
  pub here_within : u ≤ length s
  here_within = le_trans (le_of_eq here) (bytes_within n s)

  pub rest_all : take (length s - u) (drop u s) ≡ drop (bytes_of_lines n s) s
  rest_all = take_all (length s - u) (drop u s) (let len = length-drop u s in omega arith) ∙ ap (λ v. drop v s) here

  pub rest_rows : rows_of (take (length s - u) (drop u s)) ≡ drop n (rows_of s)
  rest_rows = ap rows_of rest_all ∙ rows_after n s
