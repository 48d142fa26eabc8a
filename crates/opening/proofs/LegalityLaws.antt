-- The tests of a legal opening, as a search of the pairs of paths makes them. Assumes nothing.
use Prim.Native.Nat.{ℕ, ◌+◌, ◌≤◌, ◌<◌}
use mathlib.Core.Path.{◌≡◌, sym, ap, ◌∙◌}
use mathlib.Core.Bool.{Bool, true, false, not}
use mathlib.Core.Logic.{◌⊎◌, inl, inr}
use native.Mathlib.Numerals.{add-one}
use native.Mathlib.Omega.{arith}
use Rattle.tariff.specs.Sum.{all_below, any_below}
use Rattle.tariff.proofs.Tests.{decided, both_ways, all_below_lem, any_at}
use Rattle.ledger.specs.Opening.{Opening, paths_alike, path_new}

-- one number more that passes a test
pub all_more : (n : ℕ) (test : ℕ → Bool) → all_below n test ≡ true → test n ≡ true → all_below (n + 1) test ≡ true
unfolding all_below
all_more n test p q = rw (add-one, p, q)

-- a number that fails a test
pub one_fails : (n : ℕ) (test : ℕ → Bool) (k : ℕ) → k < n → test k ≡ false → false ≡ all_below n test
one_fails n test k l e = go (decided (all_below n test))
  where
    go : (all_below n test ≡ true) ⊎ (all_below n test ≡ false) → false ≡ all_below n test
    go (inl all) = absurd (both_ways (all_below_lem n test all k l) e)
    go (inr some) = sym some

-- a path that is like none of those before it, and one that is like an earlier one
pub like_none : (o : Opening) (p q : ℕ) → q ≤ p → p ≤ q → any_below q (paths_alike o p) ≡ false → path_new o p ≡ true
unfolding path_new
like_none o p q below above e = ap (λ k. not (any_below k (paths_alike o p))) (let same : p ≡ q = omega arith in same) ∙ ap not e

pub like_earlier : (o : Opening) (p q : ℕ) → q < p → paths_alike o p q ≡ true → path_new o p ≡ false
unfolding path_new
like_earlier o p q l e = ap not (any_at p (paths_alike o p) q l e)
