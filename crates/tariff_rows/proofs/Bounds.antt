-- What a share and a transfer rest on, from what the program found by looking. Assumes nothing.
use Prim.Native.Nat.{ℕ, suc, ◌+◌, ◌*◌, ◌^◌, ◌≤◌, ◌<◌}
use mathlib.Core.Path.{◌≡◌}
use mathlib.Core.List.{List}
use native.Mathlib.Nat.{le_of_lt, le_trans, le_of_eq, lt_of_le_of_lt, mul-le-mul}
use native.Mathlib.Bridge.{le_by_compare, IsLe}
use native.Mathlib.Omega.{arith}
use lib.ListN.{length}
use Rattle.tariff.specs.Sum.{sum_to}
use Rattle.netting.specs.Migration.{shares}
use Rattle.netting.specs.Netting.{pair_at, holder_at, ProductsFit, PartsFit, share_cells}
use Rattle.tariff.proofs.Sums.{sum_ext, sum_bound}
use Rattle.netting.proofs.Pairs.{cell_below, pair_of_cells}
use Rattle.netting.proofs.Transfers.{shares_fit}
use Rattle.tariff_rows.specs.Bounds.{Moderate, WithinLoad, GivenFits}

-- the number at a pair of eight holders, and at a holder
at_pair : (m : List ℕ) → length m ≡ 64 → Moderate m → (i j : ℕ) → i < 8 → j < 8 → pair_at m i j < 2 ^ 31
unfolding pair_at
at_pair m len small i j p q = small (i * 8 + j) (let l = cell_below i j p q in omega arith)

at_holder : (column : List ℕ) → length column ≡ 8 → Moderate column → (i : ℕ) → i < 8 → holder_at column i < 2 ^ 31
unfolding holder_at
at_holder column len small i p = small i (omega arith)

-- numbers below 2^31: eight of them together fit 64 bits, and so does a product of two
sum_fits : (f : ℕ → ℕ) → ((i : ℕ) → i < 8 → f i < 2 ^ 31) → sum_to 8 f < 2 ^ 64
sum_fits f small = let all = sum_bound {f = f} (2 ^ 31) 8 (λ i l. le_of_lt (small i l)) in omega arith

product_fits : {a b : ℕ} → a < 2 ^ 31 → b < 2 ^ 31 → a * b < 2 ^ 64
unfolding IsLe
product_fits l m = lt_of_le_of_lt (mul-le-mul (le_of_lt l) (le_of_lt m)) (le_by_compare (suc (2 ^ 31 * 2 ^ 31)) (2 ^ 64) tt)

pub moderate_sums : (m : List ℕ) → length m ≡ 64 → Moderate m → GivenFits m
moderate_sums m len small i l = sum_fits (λ j. pair_at m i j) (λ j q. at_pair m len small i j l q)

pub moderate_products : (column m : List ℕ) → length column ≡ 8 → length m ≡ 64 → Moderate column → Moderate m → ProductsFit column m
moderate_products column m n k a b i j p q = product_fits (at_holder column n a i p) (at_pair m k b i j p q)

module _ (column m load parts : List ℕ) (len : length column ≡ 8) (small : Moderate column) (within : WithinLoad m load) (e : parts ≡ share_cells column m load) where
  -- the shares of losses that are within the load are within the records
  given-le : (i : ℕ) → i < 8 → sum_to 8 (λ j. pair_at parts i j) ≤ holder_at column i
  unfolding share_cells
  given-le i l =
      le_trans (le_of_eq (sum_ext {f = λ j. pair_at parts i j} {g = shares (pair_at m) (holder_at load) (holder_at column) i} 8 (λ j q. rw e (pair_of_cells (shares (pair_at m) (holder_at load) (holder_at column)) i j l q))))
      (shares_fit 8 (pair_at m) (holder_at load) (holder_at column) i (within i l))

  pub parts_fit : PartsFit 8 column parts
  parts_fit = record { few = omega arith; given = given-le; together = sum_fits (holder_at column) (at_holder column len small) }

  pub shares_given : GivenFits parts
  shares_given i l = let h = given-le i l in let b = at_holder column len small i l in omega arith
