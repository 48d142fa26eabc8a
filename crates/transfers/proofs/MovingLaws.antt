-- The columns that a migration moves, path by path and slot by slot: which of them have moved so far. Assumes nothing.
use Prim.Native.Nat.{ℕ, ◌+◌, ◌-◌, ◌≤◌, ◌<◌}
use mathlib.Core.Path.{◌≡◌, refl, sym, ap, ◌∙◌}
use mathlib.Core.Bool.{Bool, true, false, cond, ◌&&◌, ◌||◌}
use mathlib.Core.List.{List}
use mathlib.Core.Logic.{◌⊎◌, inl, inr}
use native.Mathlib.Nat.{le_trans, le_of_eq}
use native.Mathlib.Omega.{arith}
use lib.ListN.{length}
use lib.Dec.{leb, ltb, eqb}
use borrow.Author.Tests.{ltb-true, ltb-false, lt-ltb, le-ltb, leb-true, eqb-true, eqb-false}
use Rattle.tariff.specs.Sizes.{last_term}
use Rattle.tariff.proofs.Tests.{and_both, and_join, and_left_false, and_right_false, decided}
use Rattle.tariff.proofs.Sums.{sum_ext}
use Rattle.ledger.specs.Opening.{Opening, has_base}
use Rattle.slots.specs.Layout.{prior_allocated_slot, carried_slot, awarded_slot, nominated_slot, figure_slots, figure_count}
use Rattle.transfers.specs.declared.transfers.Transfer.{Transfer}
use Rattle.transfers.specs.Columns.{in_column, ColumnTransfer}
use Rattle.transfers.specs.Transfers.{share_column, slot_moves, moves_at, column_where, ColumnFits}
use Rattle.transfers.proofs.ColumnLaws.{transferred_read}
use Rattle.transfers.proofs.WhereLaws.{where_off, where_none, where_same, where_then}

-- only the slots from prior's up to before the nominations' can move
pub slot_between : (term slot : ℕ) → term ≤ last_term → slot_moves term slot ≡ true → (prior_allocated_slot ≤ slot) × (slot < nominated_slot)
unfolding slot_moves
slot_between term slot few m = go (decided (eqb term 0))
  where
    either : (decided-first : (eqb slot (carried_slot + term - 1) ≡ true) ⊎ (eqb slot (carried_slot + term - 1) ≡ false)) → (eqb slot (carried_slot + term - 1) || eqb slot (awarded_slot + term - 1)) ≡ true → (prior_allocated_slot ≤ slot) × (slot < nominated_slot)
    either (inl a) e = let q = eqb-true slot (carried_slot + term - 1) a in (omega arith, omega arith)
    either (inr a) e = let q = eqb-true slot (awarded_slot + term - 1) (sym (ap (λ t. t || eqb slot (awarded_slot + term - 1)) a) ∙ e) in (omega arith, omega arith)

    go : (eqb term 0 ≡ true) ⊎ (eqb term 0 ≡ false) → (prior_allocated_slot ≤ slot) × (slot < nominated_slot)
    go (inl z) =
        let both = and_both (leb prior_allocated_slot slot) (ltb slot awarded_slot) (sym (ap (λ t. cond t (leb prior_allocated_slot slot && ltb slot awarded_slot) (eqb slot (carried_slot + term - 1) || eqb slot (awarded_slot + term - 1))) z) ∙ m) in
        let a = leb-true prior_allocated_slot slot both.0 in
        let b = ltb-true slot awarded_slot both.1 in
        (a, omega arith)
    go (inr z) = either (decided (eqb slot (carried_slot + term - 1))) (sym (ap (λ t. cond t (leb prior_allocated_slot slot && ltb slot awarded_slot) (eqb slot (carried_slot + term - 1) || eqb slot (awarded_slot + term - 1))) z) ∙ m)

pub moving_slot : (o : Opening) (term sink p slot : ℕ) → term ≤ last_term → moves_at o term sink p slot ≡ true → (prior_allocated_slot ≤ slot) × (slot < nominated_slot)
unfolding moves_at
moving_slot o term sink p slot few e = slot_between term slot few (and_both (has_base o sink p) (slot_moves term slot) e).1

-- one number after another: those below n, and n itself, are those below n + 1
next_number : (t : Bool) (k n : ℕ) → ((t && ltb k n) || (t && eqb k n)) ≡ (t && ltb k (n + 1))
next_number false k n = refl
next_number true k n = go (decided (eqb k n)) (decided (ltb k n))
  where
    go : (eqb k n ≡ true) ⊎ (eqb k n ≡ false) → (ltb k n ≡ true) ⊎ (ltb k n ≡ false) → (ltb k n || eqb k n) ≡ ltb k (n + 1)
    go same (inl b) = ap (λ t. t || eqb k n) b ∙ sym (lt-ltb k (n + 1) (let l = ltb-true k n b in omega arith))
    go (inl e) (inr b) = (λ i. b i || e i) ∙ sym (lt-ltb k (n + 1) (let q = eqb-true k n e in omega arith))
    go (inr e) (inr b) = (λ i. b i || e i) ∙ sym (le-ltb k (n + 1) (let q = eqb-false k n e in let l = ltb-false k n b in omega (arith, q)))

-- columns that pass a test, transferred in the order of a number that each has: its path's, or its slot's
module _ (column : (ℕ → ℕ) → ℕ → ℕ) (test : ℕ → ℕ → Bool) (number : ℕ → ℕ → ℕ) where
  abbrev pub below : ℕ → ℕ → ℕ → Bool
  below n p slot = test p slot && ltb (number p slot) n

  abbrev pub one_alone : ℕ → ℕ → ℕ → Bool
  one_alone n p slot = test p slot && eqb (number p slot) n

  pub none_yet : (n : ℕ) (f : List ℕ) → ((p slot : ℕ) → test p slot ≡ true → n ≤ number p slot) → ColumnTransfer (column_where (below n) column) f f
  none_yet n f later = where_none column (below n) f (λ p slot. go p slot (decided (test p slot)))
    where
      go : (p slot : ℕ) → (test p slot ≡ true) ⊎ (test p slot ≡ false) → (test p slot && ltb (number p slot) n) ≡ false
      go p slot (inl on) = and_right_false (test p slot) (le-ltb (number p slot) n (later p slot on))
      go p slot (inr off) = and_left_false (ltb (number p slot) n) off

  pub one_more : (n : ℕ) (f one two : List ℕ) → ColumnTransfer (column_where (below n) column) f one → ColumnTransfer (column_where (one_alone n) column) one two → ColumnTransfer (column_where (below (n + 1)) column) f two
  one_more n f one two a b = where_then column (below n) (one_alone n) (below (n + 1)) f one two once (λ p slot. next_number (test p slot) (number p slot) n) a b
    where
      once : (p slot : ℕ) → (test p slot && eqb (number p slot) n) ≡ true → (test p slot && ltb (number p slot) n) ≡ false
      once p slot e =
          let here = eqb-true (number p slot) n (and_both (test p slot) (eqb (number p slot) n) e).1 in
          and_right_false (test p slot) (le-ltb (number p slot) n (omega arith))

  pub all_moved : (n : ℕ) (f f' : List ℕ) → ((p slot : ℕ) → p < 16 → test p slot ≡ true → number p slot < n) → ColumnTransfer (column_where (below n) column) f f' → ColumnTransfer (column_where test column) f f'
  all_moved n f f' earlier a = where_same column (below n) test f f' (λ p slot l k. go p slot l (decided (test p slot))) a
    where
      go : (p slot : ℕ) → p < 16 → (test p slot ≡ true) ⊎ (test p slot ≡ false) → (test p slot && ltb (number p slot) n) ≡ test p slot
      go p slot l (inl on) = and_join on (lt-ltb (number p slot) n (earlier p slot l on)) ∙ sym on
      go p slot l (inr off) = and_left_false (ltb (number p slot) n) off ∙ sym off

-- a column whose turn has not come fits as it did
pub still_fits : (x : Transfer) (test : ℕ → ℕ → Bool) (number : ℕ → ℕ → ℕ) (n : ℕ) (f f' : List ℕ) (p slot : ℕ) → length f ≡ figure_count → x.holders ≤ 8 → p < 16 → slot < figure_slots → n ≤ number p slot → ColumnTransfer (column_where (below (share_column x) test number n) (share_column x)) f f' → ColumnFits x (in_column f p slot) → ColumnFits x (in_column f' p slot)
still_fits x test number n f f' p slot long few place in_row later a fits = le_trans (le_of_eq (sum_ext {f = in_column f' p slot} {g = in_column f p slot} x.holders (λ i l. as_it_was i (omega arith)))) fits
  where
    as_it_was : (i : ℕ) → i < 8 → in_column f' p slot i ≡ in_column f p slot i
    as_it_was i l =
        transferred_read (column_where (below (share_column x) test number n) (share_column x)) f f' long a i p slot (record { holder = l; place = place; in_row = in_row })
        ∙ where_off (share_column x) (below (share_column x) test number n) p slot (in_column f p slot) i (and_right_false (test p slot) (le-ltb (number p slot) n later))
