-- What the tests of the rules tell, taken apart and put together. Assumes nothing.
use Prim.Native.Nat.{ℕ, ◌<◌}
use mathlib.Core.Path.{◌≡◌, refl, sym, ap, ◌∙◌}
use mathlib.Core.Bool.{Bool, true, false, ◌&&◌, ◌||◌, or-true}
use mathlib.Core.Logic.{◌⊎◌, inl, inr}
use native.Mathlib.Nat.{not-suc-le-zero}
use native.Mathlib.Omega.{arith}
use Prim.Native.Nat.{zero, suc, ◌+◌}
use native.Mathlib.Numerals.{add-one}
use Rattle.tariff.specs.Sum.{all_below, any_below}
use Rattle.tariff.proofs.Sums.{below_suc}

pub or_unmet : (a b : Bool) → (a || b) ≡ false → (a ≡ false) × (b ≡ false)
or_unmet true b e = (e, absurd-path e)
  where
    absurd-path : true ≡ false → b ≡ false
    absurd-path q = cc
or_unmet false b e = (refl, e)

pub and_both : (a b : Bool) → (a && b) ≡ true → (a ≡ true) × (b ≡ true)
and_both true b e = (refl, e)
and_both false b e = (e, absurd-path e)
  where
    absurd-path : false ≡ true → b ≡ true
    absurd-path q = cc

pub and_join : {a b : Bool} → a ≡ true → b ≡ true → (a && b) ≡ true
and_join p q = rw (p, q)

pub and_left_false : {a : Bool} (b : Bool) → a ≡ false → (a && b) ≡ false
and_left_false b p = rw p

pub and_right_false : (a : Bool) {b : Bool} → b ≡ false → (a && b) ≡ false
and_right_false true p = p
and_right_false false p = refl

pub or_left_true : {a : Bool} (b : Bool) → a ≡ true → (a || b) ≡ true
or_left_true b p = rw p

-- a joined test whose first part is known
pub and_after_true : {a b v : Bool} → a ≡ true → (a && b) ≡ v → b ≡ v
and_after_true {a} {b} p e = sym (ap (λ t. t && b) p) ∙ e

pub and_after_false : {a v : Bool} (b : Bool) → a ≡ false → (a && b) ≡ v → a ≡ v
and_after_false b p e = p ∙ sym (ap (λ t. t && b) p) ∙ e

pub or_after_true : {a v : Bool} (b : Bool) → a ≡ true → (a || b) ≡ v → a ≡ v
or_after_true b p e = p ∙ sym (ap (λ t. t || b) p) ∙ e

pub or_after_false : {a b v : Bool} → a ≡ false → (a || b) ≡ v → b ≡ v
or_after_false {a} {b} p e = sym (ap (λ t. t || b) p) ∙ e

-- a test is true or false
pub decided : (t : Bool) → (t ≡ true) ⊎ (t ≡ false)
decided true = inl refl
decided false = inr refl

pub both_ways : {t : Bool} → t ≡ true → t ≡ false → ⊥
both_ways p q = let z : ◌≡◌ {A = ℕ} 0 1 = cc in omega arith

-- a test that every number below n passes is passed by each
pub all_below_lem : (n : ℕ) (test : ℕ → Bool) → all_below n test ≡ true → (i : ℕ) → i < n → test i ≡ true
unfolding all_below
all_below_lem zero test e i h = absurd (not-suc-le-zero h)
all_below_lem (suc n) test e i h = go (below_suc h) (all_below_lem n test (and_both (all_below n test) (test n) e).0 i)
  where
    go : (i < n) ⊎ (i ≡ n) → (i < n → test i ≡ true) → test i ≡ true
    go (inl l) ih = ih l
    go (inr q) ih = ap test q ∙ (and_both (all_below n test) (test n) e).1

-- a test that no number below n passes is failed by each
pub none_below : (n : ℕ) (test : ℕ → Bool) → any_below n test ≡ false → (i : ℕ) → i < n → test i ≡ false
unfolding any_below
none_below zero test e i h = absurd (not-suc-le-zero h)
none_below (suc n) test e i h = go (below_suc h) (none_below n test (or_unmet (any_below n test) (test n) e).0 i)
  where
    go : (i < n) ⊎ (i ≡ n) → (i < n → test i ≡ false) → test i ≡ false
    go (inl l) ih = ih l
    go (inr q) ih = ap test q ∙ (or_unmet (any_below n test) (test n) e).1

-- a test that one number below n passes
pub any_at : (n : ℕ) (test : ℕ → Bool) (i : ℕ) → i < n → test i ≡ true → any_below n test ≡ true
unfolding any_below
any_at zero test i l e = absurd (not-suc-le-zero l)
any_at (suc n) test i l e = go (below_suc l) (any_at n test i)
  where
    go : (i < n) ⊎ (i ≡ n) → (i < n → test i ≡ true → any_below n test ≡ true) → (any_below n test || test n) ≡ true
    go (inl b) ih = or_left_true (test n) (ih b e)
    go (inr q) ih = rw (sym (ap test q) ∙ e) (or-true (any_below n test))

-- one number more that fails a test
pub none_more : (n : ℕ) (test : ℕ → Bool) → any_below n test ≡ false → test n ≡ false → any_below (n + 1) test ≡ false
unfolding any_below
none_more n test p q = rw (add-one, p, q)
