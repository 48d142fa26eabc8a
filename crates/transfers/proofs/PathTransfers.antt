-- What moves on one path: a slot that moves or does not, and a path whose sink has the base or has not. Assumes nothing.
use Prim.Native.Nat.{ℕ, ◌≤◌, ◌<◌}
use mathlib.Core.Path.{◌≡◌, refl, sym, ap, ◌∙◌, subst}
use mathlib.Core.Bool.{Bool, true, false, ◌&&◌}
use mathlib.Core.List.{List}
use mathlib.Core.Logic.{◌⊎◌, inl, inr}
use native.Mathlib.Nat.{le_refl}
use native.Mathlib.Omega.{arith}
use lib.ListN.{length}
use lib.Dec.{eqb}
use borrow.Author.Tests.{eqb-true, eq-eqb, ne_eqb}
use Rattle.records.specs.declared.setup.KeptOpening.{KeptOpening}
use Rattle.tariff.specs.Sizes.{last_term}
use Rattle.tariff.proofs.Tests.{and_both, and_join, and_left_false, and_right_false, decided}
use Rattle.ledger.specs.Opening.{Opening, path_base, has_base}
use Rattle.records.specs.Opening.{opening_in}
use Rattle.slots.specs.Layout.{prior_allocated_slot, nominated_slot, figure_count}
use Rattle.transfers.specs.declared.transfers.Transfer.{Transfer}
use Rattle.transfers.specs.Columns.{ColumnTransfer}
use Rattle.transfers.specs.Transfers.{share_column, slot_moves, moves_at, column_where, SlotFits, PathFits}
use Rattle.transfers.proofs.WhereLaws.{where_none, where_same}
use Rattle.transfers.proofs.MovingLaws.{below, slot_between, none_yet, all_moved, still_fits}

-- the loop over the paths goes by the path's number
abbrev pub path_number : ℕ → ℕ → ℕ
path_number p slot = p

module _ (term p : ℕ) where
  -- the slots of the path that move
  abbrev pub on_path : ℕ → ℕ → Bool
  on_path q j = eqb q p && slot_moves term j

  abbrev pub slot_number : ℕ → ℕ → ℕ
  slot_number q j = j

  module _ (column : (ℕ → ℕ) → ℕ → ℕ) (f : List ℕ) (slot : ℕ) where
    pub slot_moved : (f' : List ℕ) → slot_moves term slot ≡ true → ColumnTransfer (column_where (λ q j. eqb q p && eqb j slot) column) f f' → ColumnTransfer (column_where (λ q j. on_path q j && eqb j slot) column) f f'
    slot_moved f' on a = where_same column (λ q j. eqb q p && eqb j slot) (λ q j. on_path q j && eqb j slot) f f' (λ q j k l. go q j (decided (eqb j slot))) a
      where
        go : (q j : ℕ) → (eqb j slot ≡ true) ⊎ (eqb j slot ≡ false) → (eqb q p && eqb j slot) ≡ ((eqb q p && slot_moves term j) && eqb j slot)
        go q j (inl e) = ap (λ t. eqb q p && t) (e ∙ sym (ap (slot_moves term) (eqb-true j slot e) ∙ on)) ∙ sym (and-true (eqb q p && slot_moves term j)) ∙ ap (λ t. (eqb q p && slot_moves term j) && t) (sym e)
          where
            and-true : (t : Bool) → (t && true) ≡ t
            and-true true = refl
            and-true false = refl
        go q j (inr e) = and_right_false (eqb q p) e ∙ sym (and_right_false (eqb q p && slot_moves term j) e)

    pub slot_still : slot_moves term slot ≡ false → ColumnTransfer (column_where (λ q j. on_path q j && eqb j slot) column) f f
    slot_still off = where_none column (λ q j. on_path q j && eqb j slot) f (λ q j. go q j (decided (eqb j slot)))
      where
        go : (q j : ℕ) → (eqb j slot ≡ true) ⊎ (eqb j slot ≡ false) → ((eqb q p && slot_moves term j) && eqb j slot) ≡ false
        go q j (inl e) = and_left_false (eqb j slot) (and_right_false (eqb q p) (ap (slot_moves term) (eqb-true j slot e) ∙ off))
        go q j (inr e) = and_right_false (eqb q p && slot_moves term j) e

  module _ (column : (ℕ → ℕ) → ℕ → ℕ) (f : List ℕ) (few : term ≤ last_term) where
    moving : (q j : ℕ) → on_path q j ≡ true → (prior_allocated_slot ≤ j) × (j < nominated_slot)
    moving q j on = slot_between term j few (and_both (eqb q p) (slot_moves term j) on).1

    -- the loop over the slots begins at prior's and ends before the nominations'
    pub first_slot : ColumnTransfer (column_where (below column on_path slot_number prior_allocated_slot) column) f f
    first_slot = none_yet column on_path slot_number prior_allocated_slot f (λ q j on. (moving q j on).0)

    last-slot : (f' : List ℕ) → ColumnTransfer (column_where (below column on_path slot_number nominated_slot) column) f f' → ColumnTransfer (column_where on_path column) f f'
    last-slot f' a = all_moved column on_path slot_number nominated_slot f f' (λ q j l on. (moving q j on).1) a

    module _ (o : Opening) (sink base : ℕ) (is : base ≡ path_base o p) where
      abbrev transfers_slots : ℕ → ℕ → Bool
      transfers_slots = moves_at o term sink

      pub path_moved : (slot : ℕ) (f' : List ℕ) → base ≡ sink → slot ≤ nominated_slot → nominated_slot ≤ slot → ColumnTransfer (column_where (below column on_path slot_number slot) column) f f' → ColumnTransfer (column_where (λ q j. transfers_slots q j && eqb q p) column) f f'
      unfolding moves_at has_base
      path_moved slot f' at low high a = where_same column on_path (λ q j. transfers_slots q j && eqb q p) f f' (λ q j k l. go q j (decided (eqb q p))) (last-slot f' (let ended : slot ≡ nominated_slot = omega arith in subst (λ n. ColumnTransfer (column_where (below column on_path slot_number n) column) f f') ended a))
        where
          here : eqb (path_base o p) sink ≡ true
          here = eq-eqb (path_base o p) sink (sym is ∙ at)

          go : (q j : ℕ) → (eqb q p ≡ true) ⊎ (eqb q p ≡ false) → (eqb q p && slot_moves term j) ≡ ((eqb (path_base o q) sink && slot_moves term j) && eqb q p)
          go q j (inl e) = ap (λ t. t && slot_moves term j) (e ∙ sym (ap (λ z. eqb (path_base o z) sink) (eqb-true q p e) ∙ here)) ∙ sym (and-true (eqb (path_base o q) sink && slot_moves term j)) ∙ ap (λ t. (eqb (path_base o q) sink && slot_moves term j) && t) (sym e)
            where
              and-true : (t : Bool) → (t && true) ≡ t
              and-true true = refl
              and-true false = refl
          go q j (inr e) = and_left_false (slot_moves term j) e ∙ sym (and_right_false (eqb (path_base o q) sink && slot_moves term j) e)

      pub path_still : (base ≡ sink → ⊥) → ColumnTransfer (column_where (λ q j. transfers_slots q j && eqb q p) column) f f
      unfolding moves_at has_base
      path_still other = where_none column (λ q j. transfers_slots q j && eqb q p) f (λ q j. go q j (decided (eqb q p)))
        where
          go : (q j : ℕ) → (eqb q p ≡ true) ⊎ (eqb q p ≡ false) → ((eqb (path_base o q) sink && slot_moves term j) && eqb q p) ≡ false
          go q j (inl e) = and_left_false (eqb q p) (and_left_false (slot_moves term j) (ap (λ z. eqb (path_base o z) sink) (eqb-true q p e) ∙ ne_eqb (path_base o p) sink (λ same. other (is ∙ same))))
          go q j (inr e) = and_right_false (eqb (path_base o q) sink && slot_moves term j) e

-- what the loops ask of the next slot, and of the next path
pub next_slot_fits : (o : KeptOpening) (f f' : List ℕ) (p slot base : ℕ) (x : Transfer) → PathFits o f x p → base ≡ path_base (opening_in o) p → base ≡ x.sink → slot < nominated_slot → length f ≡ figure_count → ColumnTransfer (column_where (below (share_column x) (on_path x.term p) (slot_number x.term p) slot) (share_column x)) f f' → SlotFits f' p slot x
unfolding moves_at has_base
next_slot_fits o f f' p slot base x k is at l long a =
    record {
      column = record { place = k.place; in_row = omega arith };
      in_term = k.in_term;
      covered = k.covered;
      fits = λ on. still_fits x (on_path x.term p) (slot_number x.term p) slot f f' p slot long k.covered.few k.place (omega arith) (le_refl slot) a (k.fits slot l (and_join (eq-eqb (path_base (opening_in o) p) x.sink (sym is ∙ at)) on));
    }

pub next_path_fits : (o : KeptOpening) (f f' : List ℕ) (p : ℕ) (x : Transfer) → PathFits o f x p → length f ≡ figure_count → ColumnTransfer (column_where (below (share_column x) (moves_at (opening_in o) x.term x.sink) path_number p) (share_column x)) f f' → PathFits o f' x p
next_path_fits o f f' p x k long a =
    record {
      bases = k.bases;
      in_term = k.in_term;
      covered = k.covered;
      place = k.place;
      fits = λ slot l on. still_fits x (moves_at (opening_in o) x.term x.sink) path_number p f f' p slot long k.covered.few k.place (omega arith) (le_refl p) a (k.fits slot l on);
    }
