-- The load metric is no more than the highest block. Assumes nothing.
use Prim.Native.Nat.{ℕ, ◌≤◌, zero-le}
use mathlib.Core.Path.{◌≡◌, refl}
use mathlib.Core.Bool.{Bool, true, false, cond, ◌||◌}
use mathlib.Core.List.{List, [], ◌∷◌, map}
use native.Mathlib.Nat.{le_trans, min-le_left, sub-le}
use lib.Dec.{ltb}
use borrow.Author.Tests.{ltb-false}
use Rattle.tariff.specs.declared.settings.Settings.{Settings}
use Rattle.tariff.specs.Sum.{any_of, filter}
use Rattle.load_metric.specs.declared.block.Block.{Block}
use Rattle.load_metric.specs.Load.{exceedance_hours, smallest, within_exceedance, smallest_within, metric, load_posted}
use Rattle.tariff.proofs.Tests.{or_unmet}

module _ {A : Type 0} (test : A → Bool) where
  -- what no line passes, none of the lines picked out passes
  none-picked : (select : A → Bool) (xs : List A) → any_of xs test ≡ false → any_of (filter select xs) test ≡ false
  unfolding any_of filter
  none-picked select [] e = refl
  none-picked select (x ∷ xs) e = go (select x) (or_unmet (test x) (any_of xs test) e).0 (none-picked select xs (or_unmet (test x) (any_of xs test) e).1)
    where
      go : (b : Bool) → test x ≡ false → any_of (filter select xs) test ≡ false → any_of (cond b (x ∷ filter select xs) (filter select xs)) test ≡ false
      go true p ih = rw (p, ih)
      go false p ih = ih

  any_of_map : {B : Type 0} (f : B → A) (xs : List B) → any_of xs (λ x. test (f x)) ≡ false → any_of (map f xs) test ≡ false
  unfolding any_of
  any_of_map f [] e = refl
  any_of_map f (x ∷ xs) e =
      let both = or_unmet (test (f x)) (any_of xs (λ x. test (f x))) e in
      let rest = any_of_map f xs both.1 in
      rw (both.0, rest)

smallest_le : (most : ℕ) (xs : List ℕ) → any_of xs (λ x. ltb most x) ≡ false → smallest xs ≤ most
unfolding smallest any_of
smallest_le most [] e = zero-le
smallest_le most (x ∷ []) e = ltb-false most x (or_unmet (ltb most x) false e).0
smallest_le most (x ∷ y ∷ ys) e = le_trans (min-le_left x (smallest (y ∷ ys))) (ltb-false most x (or_unmet (ltb most x) (ltb most y || any_of ys (λ x. ltb most x)) e).0)

-- where no block is above a kW, neither the metric nor the load posted is
pub metric_le : (settings : Settings) (most : ℕ) (bs : List Block) → any_of bs (λ b. ltb most b.kw) ≡ false → metric settings bs ≤ most
unfolding metric smallest_within
metric_le settings most bs e =
    smallest_le most (filter (within_exceedance (exceedance_hours settings bs) bs) (map (λ b. b.kw) bs))
    (none-picked (λ x. ltb most x) (within_exceedance (exceedance_hours settings bs) bs) (map (λ b. b.kw) bs) (any_of_map (λ x. ltb most x) (λ b. b.kw) bs e))

pub posted_le : (settings : Settings) (most contract : ℕ) (bs : List Block) → any_of bs (λ b. ltb most b.kw) ≡ false → load_posted settings contract bs ≤ most
unfolding load_posted
posted_le settings most contract bs e = le_trans (sub-le (metric settings bs) contract) (metric_le settings most bs e)
