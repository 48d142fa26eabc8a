-- Three lists read side by side as blocks: whether they have equal lengths, how many blocks they have, and each of them. Assumes nothing.
use Prim.Native.Nat.{ℕ, zero, suc, ◌+◌, ◌<◌, ◌≤◌}
use mathlib.Core.Path.{◌≡◌, refl, sym, ap, ◌∙◌}
use mathlib.Core.Bool.{true}
use mathlib.Core.List.{List, [], ◌∷◌}
use native.Mathlib.Nat.{suc_inj}
use native.Mathlib.Omega.{arith}
use lib.Dec.{eqb}
use lib.ListN.{length, get_or, drop}
use borrow.Author.Tests.{eqb-true}
use Rattle.tariff.proofs.Tests.{and_both}
use Rattle.load_metric.specs.Levels.{kws_of}
use Rattle.load_metric.specs.Columns.{blocks_of, same_lengths, SameLengths}
use Rattle.load_metric.proofs.Blocks.{block_at, blocks_left, no_blocks_left}

module _ (fs hs ks : List ℕ) where
  -- the test on the lengths
  pub same_lengths_lem : same_lengths fs hs ks ≡ true → SameLengths fs hs ks
  unfolding same_lengths
  same_lengths_lem e =
      let both = and_both (eqb (length fs) (length hs)) (eqb (length hs) (length ks)) e in
      let hours = eqb-true (length fs) (length hs) both.0 in
      let kws = eqb-true (length hs) (length ks) both.1 in
      record { of_hours = sym hours; of_kws = sym (hours ∙ kws) }

-- there are as many blocks as numbers in each list
pub block_count : (fs hs ks : List ℕ) → SameLengths fs hs ks → length (blocks_of fs hs ks) ≡ length fs
unfolding blocks_of
block_count [] hs ks same = refl
block_count (f ∷ fs) [] ks same = absurd (omega (arith, same.of_hours))
block_count (f ∷ fs) (h ∷ hs) [] same = absurd (omega (arith, same.of_kws))
block_count (f ∷ fs) (h ∷ hs) (k ∷ ks) same = ap suc (block_count fs hs ks (record { of_hours = suc_inj same.of_hours; of_kws = suc_inj same.of_kws }))

-- and their kW are the third list
pub kws_back : (fs hs ks : List ℕ) → SameLengths fs hs ks → kws_of (blocks_of fs hs ks) ≡ ks
unfolding blocks_of
kws_back [] hs [] same = refl
kws_back [] hs (k ∷ ks) same = absurd (omega (arith, same.of_kws))
kws_back (f ∷ fs) [] ks same = absurd (omega (arith, same.of_hours))
kws_back (f ∷ fs) (h ∷ hs) [] same = absurd (omega (arith, same.of_kws))
kws_back (f ∷ fs) (h ∷ hs) (k ∷ ks) same = ap (λ xs. k ∷ xs) (kws_back fs hs ks (record { of_hours = suc_inj same.of_hours; of_kws = suc_inj same.of_kws }))

-- block k has the k-th number of each
pub block_of : (fs hs ks : List ℕ) (k : ℕ) → SameLengths fs hs ks → k < length fs → block_at (blocks_of fs hs ks) k ≡ record { first = get_or fs k 0; hours = get_or hs k 0; kw = get_or ks k 0 }
unfolding blocks_of
block_of [] hs ks k same l = absurd (omega arith)
block_of (f ∷ fs) [] ks k same l = absurd (omega (arith, same.of_hours))
block_of (f ∷ fs) (h ∷ hs) [] k same l = absurd (omega (arith, same.of_kws))
block_of (f ∷ fs) (h ∷ hs) (x ∷ ks) zero same l = refl
block_of (f ∷ fs) (h ∷ hs) (x ∷ ks) (suc k) same l = block_of fs hs ks k (record { of_hours = suc_inj same.of_hours; of_kws = suc_inj same.of_kws }) (omega arith)

-- a pass over the blocks, at number k
pub column_left : (fs hs ks : List ℕ) (k : ℕ) → SameLengths fs hs ks → k < length fs → drop k (blocks_of fs hs ks) ≡ record { first = get_or fs k 0; hours = get_or hs k 0; kw = get_or ks k 0 } ∷ drop (k + 1) (blocks_of fs hs ks)
column_left fs hs ks k same l =
    let count = block_count fs hs ks same in
    blocks_left (blocks_of fs hs ks) k (omega arith) ∙ ap (λ b. b ∷ drop (k + 1) (blocks_of fs hs ks)) (block_of fs hs ks k same l)

pub no_columns_left : (fs hs ks : List ℕ) (k : ℕ) → SameLengths fs hs ks → length fs ≤ k → drop k (blocks_of fs hs ks) ≡ []
no_columns_left fs hs ks k same l = let count = block_count fs hs ks same in no_blocks_left (blocks_of fs hs ks) k (omega arith)
