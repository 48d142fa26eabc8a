-- A column is a record read for every holder. One entry more adds its kW to the column's sum; a migration keeps the sum. Assumes nothing.
use Prim.Native.Nat.{ℕ, ◌+◌, ◌≤◌, ◌<◌}
use mathlib.Core.Path.{◌≡◌, refl, sym, ap, ◌∙◌}
use mathlib.Core.Bool.{Bool, true, false, cond, ◌&&◌, and-true}
use mathlib.Core.List.{List}
use native.Mathlib.Nat.{le_trans, le_of_eq}
use lib.Dec.{eqb}
use Rattle.netting.specs.declared.netting.ClassLine.{ClassLine}
use Rattle.tariff.specs.Sum.{when_true, sum_to}
use Rattle.netting.specs.Migration.{netted, lost_by, shares}
use Rattle.tariff.proofs.Sums.{when_is_true, when_is_false, sum_ext, sum_add, sum_zero, sum_one}
use Rattle.tariff.proofs.Tests.{and_right_false}
use Rattle.netting.proofs.Transfers.{shares_fit, transfer_sum}
use Rattle.ledger.specs.Opening.{Opening}
use Rattle.ledger.specs.Ledger.{Ledger}
use Rattle.ledger.specs.Migration.{load_before, column_after, load_after}

-- kw in one holder's entry, if a test passes
pub column_one : (n x : ℕ) (t : Bool) (kw : ℕ) → x < n → sum_to n (λ h. when_true (eqb h x && t) kw) ≡ when_true t kw
column_one n x true kw l =
    sum_ext {f = λ h. when_true (eqb h x && true) kw} {g = λ h. when_true (eqb h x) kw} n (λ h i. ap (λ b. when_true b kw) (and-true (eqb h x)))
    ∙ sum_one kw n x l
    ∙ sym (when_is_true kw refl)
column_one n x false kw l =
    sum_zero {f = λ h. when_true (eqb h x && false) kw} n (λ h i. when_is_false kw (and_right_false (eqb h x) refl)) ∙ sym (when_is_false kw refl)

pub column_plus : (v : ℕ → ℕ) (n x : ℕ) (t : Bool) (kw : ℕ) → x < n → sum_to n (λ h. v h + when_true (eqb h x && t) kw) ≡ sum_to n v + when_true t kw
column_plus v n x t kw l = sum_add v (λ h. when_true (eqb h x && t) kw) n ∙ ap (λ s. sum_to n v + s) (column_one n x t kw l)

module _ (o : Opening) (L : Ledger) (term sink : ℕ) (lines : List ClassLine) (fits : (i : ℕ) → i < o.holders → lost_by o.holders (netted lines) i ≤ load_before L term sink i) where
  -- the shares that a record loses to all gainers together are at most its value before the call
  pub column_fits : (v : ℕ → ℕ) (i : ℕ) → i < o.holders → sum_to o.holders (λ j. shares (netted lines) (load_before L term sink) v i j) ≤ v i
  column_fits v i l = shares_fit o.holders (netted lines) (load_before L term sink) v i (fits i l)

  -- a column that migrates where a test passes keeps its sum
  pub column_kept : (t : Bool) (v : ℕ → ℕ) → sum_to o.holders (λ h. cond t (column_after o L term sink lines v h) (v h)) ≡ sum_to o.holders v
  unfolding column_after
  column_kept true v = transfer_sum o.holders (shares (netted lines) (load_before L term sink) v) v (column_fits v)
  column_kept false v = refl

  -- and so does the load, which moves by m
  pub load_kept : (t : Bool) (v : ℕ → ℕ) → ((h : ℕ) → t ≡ true → v h ≡ load_before L term sink h) → sum_to o.holders (λ h. cond t (load_after o lines v h) (v h)) ≡ sum_to o.holders v
  unfolding lost_by load_after
  load_kept true v same = transfer_sum o.holders (netted lines) v (λ i l. le_trans (fits i l) (le_of_eq (sym (same i refl))))
  load_kept false v same = refl
