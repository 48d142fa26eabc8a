-- Laws of block lists. Assumes nothing.
use Prim.Native.Nat.{ℕ, ◌+◌, ◌<◌, ◌≤◌}
use mathlib.Core.Path.{◌≡◌, refl, ap}
use mathlib.Core.Bool.{Bool, ◌||◌}
use mathlib.Core.List.{List, [], ◌∷◌, map}
use native.Mathlib.Numerals.{add-one}
use lib.ListN.{length, get_or, drop, drop_of_length-le}
use lib.Seq.{drop-cons}
use Rattle.load_metric.specs.declared.block.Block.{Block}
use Rattle.tariff.specs.Sum.{any_of}

-- a block that nothing is read of
abbrev pub zero_block : Block
zero_block = record { first = 0; hours = 0; kw = 0 }

abbrev pub block_at : List Block → ℕ → Block
block_at bs i = get_or bs i zero_block

-- a pass over the blocks, at number i
pub blocks_left : (bs : List Block) (i : ℕ) → i < length bs → drop i bs ≡ block_at bs i ∷ drop (i + 1) bs
blocks_left bs i h = rw (add-one, drop-cons bs i zero_block h)

pub no_blocks_left : (bs : List Block) (i : ℕ) → length bs ≤ i → drop i bs ≡ []
no_blocks_left bs i h = drop_of_length-le bs h

module _ {A B : Type 0} (f : A → B) where
  pub any_of_map : (test : B → Bool) (xs : List A) → any_of (map f xs) test ≡ any_of xs (λ x. test (f x))
  unfolding any_of
  any_of_map test [] = refl
  any_of_map test (x ∷ xs) = ap (λ t. test (f x) || t) (any_of_map test xs)
