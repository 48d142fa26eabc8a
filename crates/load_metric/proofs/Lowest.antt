-- The smallest number of a list that passes a test: one that stands in the list and passes, where nothing of the list that is below it passes. And the highest of a list.
-- Assumes nothing.
use Prim.Native.Nat.{ℕ, ◌≤◌, ◌<◌, max}
use mathlib.Core.Path.{◌≡◌, refl, subst}
use mathlib.Core.Bool.{Bool, true, false, cond}
use mathlib.Core.List.{List, [], ◌∷◌}
use mathlib.Core.Logic.{◌⊎◌, inl, inr}
use native.Mathlib.Nat.{not-suc-le-zero}
use native.Mathlib.Omega.{arith}
use lib.Dec.{leb, ltb}
use lib.ListN.{length}
use borrow.Author.Tests.{leb-true, leb-false, ltb-false, ltb-true}
use Rattle.std.specs.List.{fold}
use Rattle.tariff.specs.Sum.{filter}
use Rattle.load_metric.specs.declared.block.Block.{Block}
use Rattle.load_metric.specs.Load.{smallest}
use Rattle.load_metric.specs.Levels.{highest_kw, kws_of}
use Rattle.tariff.proofs.Tests.{both_ways}

-- the number stands in the list
abbrev pub Among : ℕ → List ℕ → Type 0
Among v [] = ⊥
Among v (x ∷ xs) = (x ≡ v) ⊎ Among v xs

-- no number of the list is below v
abbrev AllFrom : ℕ → List ℕ → Type 0
AllFrom v [] = Unit
AllFrom v (x ∷ xs) = (v ≤ x) × AllFrom v xs

from_smallest : (v x : ℕ) (xs : List ℕ) → v ≤ x → AllFrom v xs → v ≤ smallest (x ∷ xs)
unfolding smallest
from_smallest v x [] p a = p
from_smallest v x (y ∷ ys) p a = let rest = from_smallest v y ys a.0 a.1 in omega arith

smallest_is : (v : ℕ) (xs : List ℕ) → Among v xs → AllFrom v xs → smallest xs ≡ v
unfolding smallest
smallest_is v [] m a = absurd m
smallest_is v (x ∷ []) (inl e) a = e
smallest_is v (x ∷ []) (inr m) a = absurd m
smallest_is v (x ∷ y ∷ ys) (inl e) a = let rest = from_smallest v y ys a.1.0 a.1.1 in omega arith
smallest_is v (x ∷ y ∷ ys) (inr m) a = let rest = smallest_is v (y ∷ ys) m a.1 in let here = a.0 in omega arith

module _ (test : ℕ → Bool) (v : ℕ) where
  among-passing : test v ≡ true → (xs : List ℕ) → Among v xs → Among v (filter test xs)
  unfolding filter
  among-passing p [] m = absurd m
  among-passing p (x ∷ xs) (inl e) = rw (e, p) (inl refl)
  among-passing p (x ∷ xs) (inr m) = kept (test x) (among-passing p xs m)
    where
      kept : (t : Bool) → Among v (filter test xs) → Among v (cond t (x ∷ filter test xs) (filter test xs))
      kept true r = inr r
      kept false r = r

  all-passing : (xs : List ℕ) → ((x : ℕ) → Among x xs → x < v → test x ≡ false) → AllFrom v (filter test xs)
  unfolding filter
  all-passing [] low = tt
  all-passing (x ∷ xs) low = kept (test x) refl (all-passing xs (λ y m. low y (inr m)))
    where
      at_least : (t : Bool) → ltb x v ≡ t → test x ≡ true → v ≤ x
      at_least true l p = absurd (both_ways p (low x (inl refl) (ltb-true x v l)))
      at_least false l p = ltb-false x v l

      kept : (t : Bool) → test x ≡ t → AllFrom v (filter test xs) → AllFrom v (cond t (x ∷ filter test xs) (filter test xs))
      kept true p a = (at_least (ltb x v) refl p, a)
      kept false p a = a

  pub smallest_passing : (xs : List ℕ) → Among v xs → test v ≡ true → ((x : ℕ) → Among x xs → x < v → test x ≡ false) → smallest (filter test xs) ≡ v
  smallest_passing xs m p low = smallest_is v (filter test xs) (among-passing p xs m) (all-passing xs low)

-- the larger of two numbers that stand in a list stands there too
pub among_max : (a b : ℕ) (xs : List ℕ) → Among a xs → Among b xs → Among (max a b) xs
among_max a b xs p q = go (leb a b) refl
  where
    go : (t : Bool) → leb a b ≡ t → Among (max a b) xs
    go true l = let h = leb-true a b l in let e : b ≡ max a b = omega arith in subst (λ v. Among v xs) e q
    go false l = let h = leb-false a b l in let e : a ≡ max a b = omega arith in subst (λ v. Among v xs) e p

-- the highest of a list stands in it
pub among_highest : (xs : List ℕ) → 0 < length xs → Among (highest_kw xs) xs
unfolding highest_kw
among_highest [] h = absurd (not-suc-le-zero h)
among_highest (x ∷ []) h = inl (omega arith)
among_highest (x ∷ y ∷ ys) h = among_max x (highest_kw (y ∷ ys)) (x ∷ y ∷ ys) (inl refl) (inr (among_highest (y ∷ ys) (omega arith)))

-- a pass that keeps the larger kW ends with the highest
folded_from : (a : ℕ) (bs : List Block) → fold (λ most b. max most b.kw) a bs ≡ max a (highest_kw (kws_of bs))
unfolding highest_kw
folded_from a [] = omega arith
folded_from a (b ∷ bs) = let rest = folded_from (max a b.kw) bs in omega arith

pub highest_folded : (bs : List Block) → fold (λ most b. max most b.kw) 0 bs ≡ highest_kw (kws_of bs)
highest_folded bs = let all = folded_from 0 bs in omega arith
