-- Laws of lists given by their entries: what stands where, and sums and tests over them. Assumes nothing.
use Prim.Native.Nat.{ℕ, zero, suc, ◌+◌, ◌<◌}
use mathlib.Core.Path.{◌≡◌, refl, sym, ap, ◌∙◌}
use mathlib.Core.Bool.{Bool, ◌||◌, or-false, or_assoc}
use mathlib.Core.List.{List, [], ◌∷◌, ◌++◌}
use mathlib.Core.Logic.{◌⊎◌, inl, inr}
use native.Mathlib.Nat.{not-suc-le-zero}
use native.Mathlib.Omega.{arith}
use lib.ListN.{length, get_or, length-append, get_or-append}
use lib.Seq.{get_or-append-add, ext_get_or}
use Rattle.std.specs.List.{list_any}
use Rattle.tariff.specs.Sum.{sum_to, any_below, sum_over, any_of, tabulate}
use Rattle.tariff.proofs.Sums.{below_suc}

module _ {A : Type 0} where
  pub length_tabulate : (n : ℕ) (f : ℕ → A) → length (tabulate n f) ≡ n
  unfolding tabulate
  length_tabulate zero f = refl
  length_tabulate (suc n) f = let ih = length_tabulate n f in let app = length-append (tabulate n f) (f n ∷ []) in omega arith

  pub at_tabulate : (n : ℕ) (f : ℕ → A) (d : A) (k : ℕ) → k < n → get_or (tabulate n f) k d ≡ f k
  unfolding tabulate
  at_tabulate zero f d k l = absurd (not-suc-le-zero l)
  at_tabulate (suc n) f d k l = go (below_suc l) (at_tabulate n f d k)
    where
      go : (k < n) ⊎ (k ≡ n) → (k < n → get_or (tabulate n f) k d ≡ f k) → get_or (tabulate n f ++ (f n ∷ [])) k d ≡ f k
      go (inl b) ih = get_or-append (tabulate n f) (f n ∷ []) d k (let e = length_tabulate n f in omega arith) ∙ ih b
      go (inr e) ih =
          let len = length_tabulate n f in
          ap (λ i. get_or (tabulate n f ++ (f n ∷ [])) i d) (let q : k ≡ length (tabulate n f) + 0 = omega arith in q)
          ∙ get_or-append-add (tabulate n f) (f n ∷ []) 0 d
          ∙ ap f (sym e)

  sum-append : (xs : List A) (x : A) (g : A → ℕ) → sum_over (xs ++ (x ∷ [])) g ≡ sum_over xs g + g x
  unfolding sum_over
  sum-append [] x g = omega arith
  sum-append (y ∷ ys) x g = let ih = sum-append ys x g in omega arith

  any_append : (xs : List A) (x : A) (test : A → Bool) → any_of (xs ++ (x ∷ [])) test ≡ (any_of xs test || test x)
  unfolding any_of
  any_append [] x test = or-false (test x)
  any_append (y ∷ ys) x test = ap (λ b. test y || b) (any_append ys x test) ∙ sym (or_assoc (test y) (any_of ys test) (test x))

  pub sum_tabulate : (n : ℕ) (f : ℕ → A) (g : A → ℕ) → sum_over (tabulate n f) g ≡ sum_to n (λ k. g (f k))
  unfolding tabulate sum_to sum_over
  sum_tabulate zero f g = refl
  sum_tabulate (suc n) f g = sum-append (tabulate n f) (f n) g ∙ ap (λ s. s + g (f n)) (sum_tabulate n f g)

  pub any_tabulate : (n : ℕ) (f : ℕ → A) (test : A → Bool) → any_of (tabulate n f) test ≡ any_below n (λ k. test (f k))
  unfolding tabulate any_below any_of
  any_tabulate zero f test = refl
  any_tabulate (suc n) f test = any_append (tabulate n f) (f n) test ∙ ap (λ b. b || test (f n)) (any_tabulate n f test)

-- a list with these entries is the list of them
pub entries_are : {A : Type 0} (none : A) (n : ℕ) (f : ℕ → A) (xs : List A) → length xs ≡ n → ((k : ℕ) → k < n → get_or xs k none ≡ f k) → xs ≡ tabulate n f
entries_are none n f xs e at = ext_get_or none xs (tabulate n f) (e ∙ sym (length_tabulate n f)) (λ k l. let b : k < n = omega arith in at k b ∙ sym (at_tabulate n f none k b))

-- the same of numbers
pub list_is : (n : ℕ) (f : ℕ → ℕ) (xs : List ℕ) → length xs ≡ n → ((k : ℕ) → k < n → get_or xs k 0 ≡ f k) → xs ≡ tabulate n f
list_is = entries_are 0

-- whether some line passes a test, as std has it
pub any_is : {A : Type 0} (test : A → Bool) (xs : List A) → any_of xs test ≡ list_any test xs
unfolding any_of
any_is test [] = refl
any_is test (x ∷ xs) = ap (λ b. test x || b) (any_is test xs)
