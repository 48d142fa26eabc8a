-- Groups, one at a time. Assumes nothing.
use Prim.Native.Nat.{ℕ, zero, suc, ◌≤◌}
use mathlib.Core.Path.{◌≡◌, refl, ap}
use mathlib.Core.List.{List, [], ◌∷◌}
use native.Mathlib.Nat.{le_trans}
use native.Mathlib.Omega.{arith}
use lib.ListN.{length, take, drop, length-drop}
use Rattle.lines.specs.declared.rows.Row.{Row}
use Rattle.groups.specs.Groups.{lines_counted, request_of, groups_from, groups_of}

-- what is left after a drop is no longer than before
pub drop_shorter : {A : Type 0} (n : ℕ) (xs : List A) → length (drop n xs) ≤ length xs
drop_shorter n xs = let len = length-drop n xs in omega arith

-- any number of groups that is enough gives the same
enough : (m n : ℕ) (rows : List Row) → length rows ≤ m → length rows ≤ n → groups_from m rows ≡ groups_from n rows
unfolding groups_from
enough zero zero rows a b = refl
enough zero (suc n) [] a b = refl
enough zero (suc n) (r ∷ rows) a b = absurd (let z : ⊥ = omega arith in z)
enough (suc m) zero [] a b = refl
enough (suc m) zero (r ∷ rows) a b = absurd (let z : ⊥ = omega arith in z)
enough (suc m) (suc n) [] a b = refl
enough (suc m) (suc n) (r ∷ rows) a b =
    ap (λ later. request_of r (take (lines_counted r) rows) ∷ later)
    (enough m n (drop (lines_counted r) rows) (le_trans (drop_shorter (lines_counted r) rows) (omega arith)) (le_trans (drop_shorter (lines_counted r) rows) (omega arith)))

-- the first group, and those after it
pub first_group_lem : (r : Row) (rows : List Row) → groups_of (r ∷ rows) ≡ (request_of r (take (lines_counted r) rows) ∷ groups_of (drop (lines_counted r) rows))
unfolding groups_of groups_from
first_group_lem r rows =
    ap (λ later. request_of r (take (lines_counted r) rows) ∷ later)
    (enough (length rows) (length (drop (lines_counted r) rows)) (drop (lines_counted r) rows) (drop_shorter (lines_counted r) rows) (omega arith))
