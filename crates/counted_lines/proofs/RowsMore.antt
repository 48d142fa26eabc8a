-- Rows taken one at a time. Assumes nothing.
use Prim.Native.Nat.{ℕ, zero, suc, ◌<◌}
use mathlib.Core.Path.{◌≡◌, sym, ap, ◌∙◌}
use mathlib.Core.Bool.{◌&&◌, and_assoc, and-true}
use mathlib.Core.List.{List, [], ◌∷◌, ◌++◌}
use native.Mathlib.Omega.{arith}
use lib.ListN.{length, take, drop, length-drop}
use Rattle.lines.specs.declared.rows.LineKind.{LineKind}
use Rattle.lines.specs.declared.rows.Row.{Row}
use Rattle.lines.specs.Rows.{same_kind, all_of_kind}

module _ {A : Type 0} where
  -- one more of a list whose rest begins with x
  pub take_more : (k : ℕ) (xs : List A) (x : A) (ys : List A) → drop k xs ≡ (x ∷ ys) → take (suc k) xs ≡ take k xs ++ (x ∷ [])
  take_more zero (z ∷ zs) x ys e = let same : z ≡ x = cc in ap (λ w. w ∷ []) same
  take_more (suc k) (z ∷ zs) x ys e = ap (λ l. z ∷ l) (take_more k zs x ys e)
  take_more zero [] x ys e = cc
  take_more (suc k) [] x ys e = cc

  pub drop_more : (k : ℕ) (xs : List A) (x : A) (ys : List A) → drop k xs ≡ (x ∷ ys) → drop (suc k) xs ≡ ys
  drop_more zero (z ∷ zs) x ys e = cc
  drop_more (suc k) (z ∷ zs) x ys e = drop_more k zs x ys e
  drop_more zero [] x ys e = cc
  drop_more (suc k) [] x ys e = cc

  pub in_list : (k : ℕ) (xs : List A) (x : A) (ys : List A) → drop k xs ≡ (x ∷ ys) → k < length xs
  in_list k xs x ys e =
      let some = ap length e in
      let left = length-drop k xs in
      omega arith

pub kinds_more : (kind : LineKind) (rows : List Row) (r : Row) → all_of_kind kind (rows ++ (r ∷ [])) ≡ (all_of_kind kind rows && same_kind r.kind kind)
unfolding all_of_kind
kinds_more kind [] r = and-true (same_kind r.kind kind)
kinds_more kind (x ∷ rows) r = ap (λ t. same_kind x.kind kind && t) (kinds_more kind rows r) ∙ sym (and_assoc (same_kind x.kind kind) (all_of_kind kind rows) (same_kind r.kind kind))
