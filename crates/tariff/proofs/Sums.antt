-- Laws of the sums that the rules are written with: by their terms, two sums in one, the order of two sums, and one changed term. Assumes nothing.
use Prim.Native.Nat.{ℕ, zero, suc, ◌+◌, ◌*◌, ◌≤◌, ◌<◌, zero-le}
use mathlib.Core.Path.{◌≡◌, refl, sym, ap, ◌∙◌, ap₂}
use mathlib.Core.Bool.{Bool, true, false}
use mathlib.Core.Logic.{◌⊎◌, inl, inr}
use native.Mathlib.Nat.{le_refl, le_trans, add-le-add, suc-mul, not-suc-le-zero, le-suc}
use native.Mathlib.Numerals.{add-one}
use native.Mathlib.Omega.{arith}
use lib.Dec.{eqb}
use borrow.Author.Tests.{eqb-true, eqb-false, eq-eqb, ne_eqb}
use Rattle.tariff.specs.Sum.{when_true, sum_to}

pub when_is_true : {t : Bool} (v : ℕ) → t ≡ true → when_true t v ≡ v
unfolding when_true
when_is_true v e = rw e

pub when_is_false : {t : Bool} (v : ℕ) → t ≡ false → when_true t v ≡ 0
unfolding when_true
when_is_false v e = rw e

pub when_le : (t : Bool) (v : ℕ) → when_true t v ≤ v
unfolding when_true
when_le true v = le_refl v
when_le false v = zero-le

pub when_zero : (t : Bool) → when_true t 0 ≡ 0
unfolding when_true
when_zero true = refl
when_zero false = refl

pub when_add : (t : Bool) (a b : ℕ) → when_true t (a + b) ≡ when_true t a + when_true t b
unfolding when_true
when_add true a b = refl
when_add false a b = refl

pub below_suc : {k n : ℕ} → k < suc n → (k < n) ⊎ (k ≡ n)
below_suc {k} {n} h = split (eqb k n) refl
  where
    split : (t : Bool) → eqb k n ≡ t → (k < n) ⊎ (k ≡ n)
    split true e = inr (eqb-true k n e)
    split false e = let ne = eqb-false k n e in inl (omega (arith, ne))

pub sum_ext : {f g : ℕ → ℕ} (n : ℕ) → ((i : ℕ) → i < n → f i ≡ g i) → sum_to n f ≡ sum_to n g
unfolding sum_to
sum_ext zero e = refl
sum_ext (suc n) e = ap₂ (λ a b. a + b) (sum_ext n (λ i h. e i (le_trans h (le-suc n)))) (e n (le_refl (suc n)))

pub sum_le : {f g : ℕ → ℕ} (n : ℕ) → ((i : ℕ) → i < n → f i ≤ g i) → sum_to n f ≤ sum_to n g
unfolding sum_to
sum_le zero e = le_refl 0
sum_le (suc n) e = add-le-add (sum_le n (λ i h. e i (le_trans h (le-suc n)))) (e n (le_refl (suc n)))

pub sum_add : (f g : ℕ → ℕ) (n : ℕ) → sum_to n (λ i. f i + g i) ≡ sum_to n f + sum_to n g
unfolding sum_to
sum_add f g zero = refl
sum_add f g (suc n) = let ih = sum_add f g n in omega arith

pub sum_zero : {f : ℕ → ℕ} (n : ℕ) → ((i : ℕ) → i < n → f i ≡ 0) → sum_to n f ≡ 0
unfolding sum_to
sum_zero zero e = refl
sum_zero (suc n) e = let ih = sum_zero n (λ i h. e i (le_trans h (le-suc n))) in let last = e n (le_refl (suc n)) in omega arith

-- terms of at most b add up to at most n × b
pub sum_bound : {f : ℕ → ℕ} (b n : ℕ) → ((i : ℕ) → i < n → f i ≤ b) → sum_to n f ≤ n * b
unfolding sum_to
sum_bound b zero e = zero-le
sum_bound b (suc n) e =
    let ih = sum_bound b n (λ i h. e i (le_trans h (le-suc n))) in
    let last = e n (le_refl (suc n)) in
    omega (arith, suc-mul n b)

-- the order of two sums does not matter
pub sum_swap : (f : ℕ → ℕ → ℕ) (n m : ℕ) → sum_to n (λ i. sum_to m (λ j. f i j)) ≡ sum_to m (λ j. sum_to n (λ i. f i j))
unfolding sum_to
sum_swap f zero m = sym (sum_zero m (λ i h. refl))
sum_swap f (suc n) m = ap (λ x. x + sum_to m (λ j. f n j)) (sum_swap f n m) ∙ sym (sum_add (λ j. sum_to n (λ i. f i j)) (λ j. f n j) m)

-- a term is at most its sum
pub term_le_sum : (f : ℕ → ℕ) (n k : ℕ) → k < n → f k ≤ sum_to n f
unfolding sum_to
term_le_sum f zero k h = absurd (not-suc-le-zero h)
term_le_sum f (suc n) k h = go (below_suc h) (term_le_sum f n k)
  where
    go : (k < n) ⊎ (k ≡ n) → (k < n → f k ≤ sum_to n f) → f k ≤ sum_to n f + f n
    go (inl l) ih = let t = ih l in omega arith
    go (inr e) ih = let t = ap f e in omega arith

-- v in one place below n, and 0 elsewhere
pub sum_one : (v n k : ℕ) → k < n → sum_to n (λ i. when_true (eqb i k) v) ≡ v
unfolding sum_to
sum_one v zero k h = absurd (not-suc-le-zero h)
sum_one v (suc n) k h = go (below_suc h) (sum_one v n k)
  where
    other : (i : ℕ) → (i ≡ k → ⊥) → when_true (eqb i k) v ≡ 0
    other i ne = when_is_false v (ne_eqb i k ne)

    go : (k < n) ⊎ (k ≡ n) → (k < n → sum_to n (λ i. when_true (eqb i k) v) ≡ v) → sum_to n (λ i. when_true (eqb i k) v) + when_true (eqb n k) v ≡ v
    go (inl l) ih = let a = ih l in let b = other n (λ e. omega (arith, e)) in omega arith
    go (inr e) ih =
        let a = sum_zero {f = λ i. when_true (eqb i k) v} n (λ i l. other i (λ q. omega (arith, q))) in
        let b = when_is_true v (eq-eqb n k (sym e)) in
        omega arith

-- a sum that a loop forms: nothing yet, one term more, all
pub sum_more : (f : ℕ → ℕ) (j s v : ℕ) → s ≡ sum_to j f → v ≡ f j → s + v ≡ sum_to (j + 1) f
unfolding sum_to
sum_more f j s v p q = rw add-one (omega arith)

-- a part of a sum is at most the sum
pub sum_part_le : (f : ℕ → ℕ) (n j : ℕ) → j < n → sum_to j f + f j ≤ sum_to n f
unfolding sum_to
sum_part_le f zero j l = absurd (not-suc-le-zero l)
sum_part_le f (suc n) j l = go (below_suc l) (sum_part_le f n j)
  where
    go : (j < n) ⊎ (j ≡ n) → (j < n → sum_to j f + f j ≤ sum_to n f) → sum_to j f + f j ≤ sum_to n f + f n
    go (inl b) ih = let h = ih b in omega arith
    go (inr e) ih = let a = ap (λ k. sum_to k f) e in let b = ap f e in omega arith
