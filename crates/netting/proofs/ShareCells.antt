-- The shares of a column, cell by cell, and the transfer of a column, holder by holder. Assumes nothing.
use Prim.Native.Nat.{ℕ, ◌+◌, ◌-◌, ◌*◌, ◌/◌, ◌%◌, ◌^◌, ◌≤◌, ◌<◌}
use mathlib.Core.Path.{◌≡◌, refl, sym, ap, ◌∙◌, subst}
use mathlib.Core.Bool.{cond}
use mathlib.Core.List.{List}
use native.Mathlib.Nat.{mul-zero, zero-div, le_trans, le_of_eq, lt_of_le_of_lt}
use native.Mathlib.Omega.{arith}
use lib.ListN.{get_or}
use borrow.Author.Tests.{lt-ltb, le-ltb}
use Rattle.tariff.specs.Sum.{sum_to, tabulate}
use Rattle.netting.specs.Migration.{share, shares, transferred}
use Rattle.netting.specs.Netting.{pair_at, holder_at, pair_cells, column_cells, ProductsFit, PartsFit, share_cells, transferred_entry, transferred_cells}
use Rattle.tariff.proofs.Sums.{sum_le, term_le_sum}
use Rattle.tariff.proofs.Lists.{length_tabulate, at_tabulate, list_is}
use Rattle.netting.proofs.Pairs.{cell_of_pair}
use Rattle.netting.proofs.Transfers.{transfer_sum}

pub share_with_nothing : (v m load : ℕ) → m ≡ 0 → 0 ≡ share v m load
unfolding share
share_with_nothing v m load e = sym (ap (λ n. v * n / load) e ∙ ap (λ n. n / load) (mul-zero v) ∙ zero-div load)

-- the share of a cell
abbrev pub share_cell : List ℕ → List ℕ → List ℕ → ℕ → ℕ
share_cell column m load k = share (get_or column (k / 8) 0) (get_or m k 0) (get_or load (k / 8) 0)

pub share_cells_lem : (column m load : List ℕ) → tabulate 64 (share_cell column m load) ≡ share_cells column m load
unfolding share_cells pair_cells shares holder_at
share_cells_lem column m load =
    list_is 64 (λ k. share (holder_at column (k / 8)) (pair_at m (k / 8) (k % 8)) (holder_at load (k / 8))) (tabulate 64 (share_cell column m load)) (length_tabulate 64 (share_cell column m load))
    (λ k l. at_tabulate 64 (share_cell column m load) 0 k l ∙ ap (λ x. share (get_or column (k / 8) 0) x (get_or load (k / 8) 0)) (sym (cell_of_pair m k)))

pub product_fits : (column m : List ℕ) → ProductsFit column m → (k : ℕ) → k < 64 → get_or column (k / 8) 0 * get_or m k 0 < 2 ^ 64
unfolding holder_at
product_fits column m fits k l = subst (λ x. get_or column (k / 8) 0 * x < 2 ^ 64) (cell_of_pair m k) (fits (k / 8) (k % 8) (omega arith) (omega arith))

module _ (n : ℕ) (column parts : List ℕ) where
  -- the entries are those of the column
  pub all_entries : tabulate 8 (transferred_entry n column parts) ≡ transferred_cells n column parts
  unfolding transferred_cells column_cells
  all_entries = refl

  -- the two cases of an entry
  pub entry_past : (i : ℕ) → n ≤ i → get_or column i 0 ≡ transferred_entry n column parts i
  unfolding holder_at
  entry_past i l = sym (ap (λ b. cond b (transferred n (pair_at parts) (holder_at column) i) (holder_at column i)) (le-ltb i n l))

  pub entry_moved : (i : ℕ) → i < n → transferred n (pair_at parts) (holder_at column) i ≡ transferred_entry n column parts i
  entry_moved i l = sym (ap (λ b. cond b (transferred n (pair_at parts) (holder_at column) i) (holder_at column i)) (lt-ltb i n l))

  module _ (fits : PartsFit n column parts) where
    -- nothing that the transfer forms passes 64 bits
    pub given_fits : (i : ℕ) → i < n → sum_to n (λ j. pair_at parts i j) < 2 ^ 64
    given_fits i l = lt_of_le_of_lt (le_trans (fits.given i l) (term_le_sum (holder_at column) n i l)) fits.together

    pub gained_fits : (i : ℕ) → i < n → sum_to n (λ j. pair_at parts j i) < 2 ^ 64
    gained_fits i l = lt_of_le_of_lt (sum_le n (λ j m. le_trans (term_le_sum (λ k. pair_at parts j k) n i l) (fits.given j m))) fits.together

    pub transferred_fits : (i : ℕ) → i < n → transferred n (pair_at parts) (holder_at column) i < 2 ^ 64
    transferred_fits i l =
        lt_of_le_of_lt (term_le_sum (λ k. transferred n (pair_at parts) (holder_at column) k) n i l)
        (lt_of_le_of_lt (le_of_eq (transfer_sum n (pair_at parts) (holder_at column) fits.given)) fits.together)

  -- what the code stores for a holder
  pub transferred_value : (i given gained : ℕ) → given ≡ sum_to n (λ j. pair_at parts i j) → gained ≡ sum_to n (λ j. pair_at parts j i) → get_or column i 0 - given + gained ≡ transferred n (pair_at parts) (holder_at column) i
  unfolding transferred holder_at
  transferred_value i given gained p q = λ t. get_or column i 0 - p t + q t
