-- A test of each number that an iterator counts from 0 on is the rules' test of the numbers below a count. Assumes nothing.
use Rattle.std.proofs.Common.{◌≡◌, ℕ, zero, suc, ◌+◌, Bool, ◌&&◌, ◌||◌, [], ◌∷◌, ◌++◌, map, refl, ap, ◌∙◌, arith}
use mathlib.Core.Path.{ap₂}
use mathlib.Core.Bool.{and-true, or-false}
use denote.Param.Members.{Mut}
use Rattle.std.specs.declared.ops.Range.{Range}
use Rattle.std.proofs.iter.Yields.{nat_range_steps}
use Rattle.std.specs.Fn.{Called}
use Rattle.std.specs.Iterator.{ChecksAll, ChecksAny}
use Rattle.std.specs.List.{range_with_len, list_all, list_any}
use Rattle.std.proofs.lemmas.List.{map-append}
use Rattle.std.proofs.lemmas.List.Folds.{list_all-append, list_any-append}
use Rattle.std.proofs.lemmas.Iterator.{YieldsList-from_range}
use Rattle.std.proofs.lemmas.Iterator.Search.{all_from_yields_List, any_from_yields_List}
use Rattle.tariff.specs.Sum.{all_below, any_below, tabulate}

-- the last number of a range, apart
pub range_last : (a n j : ℕ) → a + n ≡ j → range_with_len a (suc n) ≡ range_with_len a n ++ j ∷ []
range_last a zero j e = ap (λ k. k ∷ []) (let same : a ≡ j = omega arith in same)
range_last a (suc n) j e = ap (λ ks. a ∷ ks) (range_last (a + 1) n j (omega arith))

-- the list that an iterator makes of the numbers below a count is the list given by its entries
pub mapped_range : {A : Type 0} (n : ℕ) (f : ℕ → A) → map f (range_with_len 0 n) ≡ tabulate n f
unfolding tabulate
mapped_range zero f = refl
mapped_range (suc n) f = ap (map f) (range_last 0 n n (omega arith)) ∙ map-append f (range_with_len 0 n) (n ∷ []) ∙ ap (λ xs. xs ++ f n ∷ []) (mapped_range n f)

module _ (test : ℕ → Bool) where
  pub list_all-range : (n : ℕ) → list_all test (range_with_len 0 n) ≡ all_below n test
  unfolding all_below
  list_all-range zero = refl
  list_all-range (suc n) = ap (list_all test) (range_last 0 n n (omega arith)) ∙ list_all-append test (range_with_len 0 n) (n ∷ []) ∙ ap₂ (λ s t. s && t) (list_all-range n) (and-true (test n))

  pub list_any-range : (n : ℕ) → list_any test (range_with_len 0 n) ≡ any_below n test
  unfolding any_below
  list_any-range zero = refl
  list_any-range (suc n) = ap (list_any test) (range_last 0 n n (omega arith)) ∙ list_any-append test (range_with_len 0 n) (n ∷ []) ∙ ap₂ (λ s t. s || t) (list_any-range n) (or-false (test n))

-- what an iterator over the numbers below a count answers, where a call of the closure is a test and leaves the closure as it was
module _ {F : Type 0} {g : Mut F (ℕ × Unit {0}) Bool} {f : F} {u : Range ℕ} (test : ℕ → Bool) (n : ℕ) where
  pub all_counted : (r : Bool) → ChecksAll nat_range_steps g (record { start = 0; end = n }) f r u → ((k : ℕ) (b : Bool) (q : F) → Called g f (k, tt) b q → (q ≡ f) × (b ≡ test k)) → r ≡ all_below n test
  all_counted r ran calls = all_from_yields_List test _ _ r ran (YieldsList-from_range 0 n n refl (omega arith)) calls ∙ list_all-range test n

  pub any_counted : (r : Bool) → ChecksAny nat_range_steps g (record { start = 0; end = n }) f r u → ((k : ℕ) (b : Bool) (q : F) → Called g f (k, tt) b q → (q ≡ f) × (b ≡ test k)) → r ≡ any_below n test
  any_counted r ran calls = any_from_yields_List test _ _ r ran (YieldsList-from_range 0 n n refl (omega arith)) calls ∙ list_any-range test n
