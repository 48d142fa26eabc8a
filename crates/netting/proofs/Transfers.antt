-- Laws of a migration's transfer of a column: the shares of a record are at most the record, and a transfer keeps the column's sum. Assumes nothing.
use Prim.Native.Nat.{ℕ, zero, suc, ◌+◌, ◌*◌, ◌/◌, ◌≤◌, ◌<◌, zero-le}
use mathlib.Core.Path.{◌≡◌, ap}
use native.Mathlib.Nat.{le_trans, le_of_eq, add-le-add, mul-add, div-zero, add-mul, le-div_iff_mul-le, div-mul-le_self, div-le_of_le-mul, mul-le-mul_left, mul_comm, zero-lt-suc}
use native.Mathlib.Omega.{arith}
use Rattle.tariff.specs.Sum.{sum_to}
use Rattle.netting.specs.Migration.{share, shares, transferred, lost_by}
use Rattle.tariff.proofs.Sums.{sum_ext, sum_add, sum_swap}

-- quotients rounded down add up to no more than the quotient of the sum
div_add_le : (a b L : ℕ) → a / L + b / L ≤ (a + b) / L
div_add_le a b zero = let p = div-zero a in let q = div-zero b in omega arith
div_add_le a b (suc L) =
    (le-div_iff_mul-le (zero-lt-suc L)).1
    (le_trans (le_of_eq (add-mul (a / suc L) (b / suc L) (suc L))) (add-le-add (div-mul-le_self a (suc L)) (div-mul-le_self b (suc L))))

-- the shares that go with parts of a load are at most the share that goes with all of them
shares_le_share : (v L : ℕ) (m : ℕ → ℕ) (n : ℕ) → sum_to n (λ j. share v (m j) L) ≤ share v (sum_to n m) L
unfolding sum_to share
shares_le_share v L m zero = zero-le
shares_le_share v L m (suc n) =
    let ih = shares_le_share v L m n in
    let both = div_add_le (v * sum_to n m) (v * m n) L in
    let all-of-it = ap (λ x. x / L) (mul-add v (sum_to n m) (m n)) in
    omega arith

-- the share that goes with at most the whole load is at most the record
share_le : (v m L : ℕ) → m ≤ L → share v m L ≤ v
unfolding share
share_le v m L h = div-le_of_le-mul L (le_trans (mul-le-mul_left v h) (le_of_eq (mul_comm v L)))

-- nothing below zero: where a loser's m together are at most its load, its shares of a record together are at most the record
pub shares_fit : (n : ℕ) (m : ℕ → ℕ → ℕ) (L v : ℕ → ℕ) (i : ℕ) → lost_by n m i ≤ L i → sum_to n (λ j. shares m L v i j) ≤ v i
unfolding shares lost_by
shares_fit n m L v i h = le_trans (shares_le_share (v i) (L i) (m i) n) (share_le (v i) (sum_to n (λ j. m i j)) (L i) h)

-- what a column's entry is after the transfer, said without a difference
pub transfer_entry : (n : ℕ) (part : ℕ → ℕ → ℕ) (v : ℕ → ℕ) (i : ℕ) → sum_to n (λ j. part i j) ≤ v i → transferred n part v i + sum_to n (λ j. part i j) ≡ v i + sum_to n (λ j. part j i)
unfolding transferred
transfer_entry n part v i h = omega arith

-- a transfer whose parts fit keeps the column's sum
pub transfer_sum : (n : ℕ) (part : ℕ → ℕ → ℕ) (v : ℕ → ℕ) → ((i : ℕ) → i < n → sum_to n (λ j. part i j) ≤ v i) → sum_to n (λ i. transferred n part v i) ≡ sum_to n v
transfer_sum n part v fits =
    let each = sum_ext {f = λ i. transferred n part v i + sum_to n (λ j. part i j)} {g = λ i. v i + sum_to n (λ j. part j i)} n (λ i h. transfer_entry n part v i (fits i h)) in
    let left = sum_add (λ i. transferred n part v i) (λ i. sum_to n (λ j. part i j)) n in
    let right = sum_add v (λ i. sum_to n (λ j. part j i)) n in
    let swap = sum_swap part n n in
    omega arith
