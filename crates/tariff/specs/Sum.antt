-- Sums and searches that the rules are written with.
use Rattle.std.specs.Prelude.{ℕ, zero, suc, ◌+◌, Bool, true, false, cond, ◌&&◌, ◌||◌, List, [], ◌∷◌, ◌++◌}

-- v where the test passes, else 0
unfoldable pub when_true : Bool → ℕ → ℕ
when_true test v = cond test v 0

-- f 0 + f 1 + .. + f (n − 1)
unfoldable pub sum_to : ℕ → (ℕ → ℕ) → ℕ
sum_to zero f = 0
sum_to (suc n) f = sum_to n f + f n

-- every number below n passes the test
unfoldable pub all_below : ℕ → (ℕ → Bool) → Bool
all_below zero test = true
all_below (suc n) test = all_below n test && test n

-- some number below n passes the test
unfoldable pub any_below : ℕ → (ℕ → Bool) → Bool
any_below zero test = false
any_below (suc n) test = any_below n test || test n

module _ {A : Type 0} where
  -- f summed over the lines of a list
  unfoldable pub sum_over : List A → (A → ℕ) → ℕ
  sum_over [] f = 0
  sum_over (x ∷ xs) f = f x + sum_over xs f

  -- some line of a list passes the test
  unfoldable pub any_of : List A → (A → Bool) → Bool
  any_of [] test = false
  any_of (x ∷ xs) test = test x || any_of xs test

  -- the lines of a list that pass the test
  unfoldable pub filter : (A → Bool) → List A → List A
  filter test [] = []
  filter test (x ∷ xs) = cond (test x) (x ∷ filter test xs) (filter test xs)

  -- the list of f 0, f 1, .. f (n − 1)
  unfoldable pub tabulate : ℕ → (ℕ → A) → List A
  tabulate zero f = []
  tabulate (suc n) f = tabulate n f ++ (f n ∷ [])
