-- Columns of the figures: read, stored, and transferred one after another. Assumes nothing.
use Prim.Native.Nat.{ℕ, zero, suc, ◌+◌, ◌-◌, ◌≤◌, ◌<◌, zero-le}
use mathlib.Core.Path.{◌≡◌, refl, sym, ap, ◌∙◌}
use mathlib.Core.Bool.{Bool, true, false, cond, ◌&&◌, and_assoc}
use mathlib.Core.List.{List}
use mathlib.Core.Logic.{◌⊎◌, inl, inr}
use native.Mathlib.Numerals.{add-one}
use native.Mathlib.Omega.{arith}
use lib.ListN.{length, get_or, drop, length-drop}
use lib.Seq.{get_or-drop}
use lib.Dec.{ltb, eqb}
use borrow.Author.Tests.{ltb-true, ltb-false, lt-ltb, le-ltb, eqb-true, eqb-false}
use Rattle.tariff.proofs.Tests.{decided}
use Rattle.tariff.proofs.Lists.{at_tabulate}
use Rattle.netting.specs.Netting.{holder_at, column_cells}
use Rattle.ledger.specs.Effects.{same3}
use Rattle.slots.specs.Cells.{HasCell, read_at, stored_at, Shows}
use Rattle.slots.specs.Layout.{figure_slots, last_closed_at, figure_count}
use Rattle.slots.proofs.CellLaws.{shows_stored, shows_agree}
use Rattle.transfers.specs.Columns.{HasColumn, in_column, column_at, column_stored, ColumnTransfer}

-- what stands in a column
pub column_holder : (f : List ℕ) (p slot i : ℕ) → i < 8 → holder_at (column_at f p slot) i ≡ in_column f p slot i
unfolding holder_at column_at column_cells
column_holder f p slot i l = at_tabulate 8 (in_column f p slot) 0 i l

pub column_cell : (p slot h : ℕ) → HasColumn p slot → h < 8 → HasCell figure_slots h p slot
column_cell p slot h c l = record { holder = l; place = c.place; in_row = c.in_row }

-- one entry more of a column that is stored from the first on
one_more : (s c l m : Bool) (v a f : ℕ) → (s ≡ true → v ≡ a) → (s ≡ true → m ≡ true) → (s ≡ false → l ≡ m) → cond (s && c) v (cond (l && c) a f) ≡ cond (m && c) a f
one_more true true l m v a f p q r = p refl ∙ sym (ap (λ b. cond (b && true) a f) (q refl))
one_more true false true true v a f p q r = refl
one_more true false true false v a f p q r = refl
one_more true false false true v a f p q r = refl
one_more true false false false v a f p q r = refl
one_more false c l m v a f p q r = ap (λ b. cond (b && c) a f) (r refl)

below_more : (i h : ℕ) → eqb i h ≡ false → ltb i h ≡ ltb i (suc h)
below_more i h t = go (decided (ltb i h))
  where
    go : (ltb i h ≡ true) ⊎ (ltb i h ≡ false) → ltb i h ≡ ltb i (suc h)
    go (inl b) = b ∙ sym (lt-ltb i (suc h) (let s = ltb-true i h b in omega arith))
    go (inr b) = b ∙ sym (le-ltb i (suc h) (let s = ltb-false i h b in let ne = eqb-false i h t in omega (arith, ne)))

module _ (f : List ℕ) (p slot : ℕ) (column : List ℕ) where
  -- one entry more
  pub stored_more : (h : ℕ) (so_far next : List ℕ) (v : ℕ) → so_far ≡ column_stored f p slot column h → v ≡ get_or column h 0 → next ≡ stored_at figure_slots so_far h p slot v → next ≡ column_stored f p slot column (h + 1)
  unfolding column_stored holder_at
  stored_more h so_far next v e is made = made ∙ (λ i. stored_at figure_slots (e i) h p slot (is i)) ∙ ap (column_stored f p slot column) (sym (add-one h))

  -- the figures after the first n entries are stored
  column-so-far : (n : ℕ) (g : ℕ → ℕ → ℕ → ℕ) (rest : List ℕ) → n ≤ 8 → p < 16 → slot < figure_slots → Shows figure_slots 0 f g rest → Shows figure_slots 0 (column_stored f p slot column n) (λ h q s. cond (ltb h n && (eqb q p && eqb s slot)) (holder_at column h) (g h q s)) rest
  unfolding column_stored same3
  column-so-far zero g rest few a b s = shows_agree figure_slots 0 g _ f rest s (λ h q z c. sym (ap (λ t. cond (t && (eqb q p && eqb z slot)) (holder_at column h) (g h q z)) (le-ltb h 0 zero-le)))
  column-so-far (suc n) g rest few a b s =
      shows_agree figure_slots 0 _ (λ h q z. cond (ltb h (suc n) && (eqb q p && eqb z slot)) (holder_at column h) (g h q z)) (stored_at figure_slots (column_stored f p slot column n) n p slot (holder_at column n)) rest
      (shows_stored figure_slots 0 (holder_at column n) _ (column_stored f p slot column n) rest n p slot (column-so-far n g rest (omega arith) a b s) (record { holder = omega arith; place = a; in_row = b }))
      (λ h q z c. each h q z)
    where
      each : (h q z : ℕ) → cond (eqb h n && eqb q p && eqb z slot) (holder_at column n) (cond (ltb h n && (eqb q p && eqb z slot)) (holder_at column h) (g h q z)) ≡ cond (ltb h (suc n) && (eqb q p && eqb z slot)) (holder_at column h) (g h q z)
      each h q z =
          ap (λ t. cond t (holder_at column n) (cond (ltb h n && (eqb q p && eqb z slot)) (holder_at column h) (g h q z))) (and_assoc (eqb h n) (eqb q p) (eqb z slot))
          ∙ one_more (eqb h n) (eqb q p && eqb z slot) (ltb h n) (ltb h (suc n)) (holder_at column n) (holder_at column h) (g h q z) (λ t. ap (holder_at column) (sym (eqb-true h n t))) (λ t. lt-ltb h (suc n) (let same = eqb-true h n t in omega arith)) (below_more h n)

  -- and after all of them
  pub shows_column : (g : ℕ → ℕ → ℕ → ℕ) (rest : List ℕ) → p < 16 → slot < figure_slots → Shows figure_slots 0 f g rest → Shows figure_slots 0 (column_stored f p slot column 8) (λ h q s. cond (eqb q p && eqb s slot) (holder_at column h) (g h q s)) rest
  shows_column g rest a b s =
      shows_agree figure_slots 0 _ (λ h q z. cond (eqb q p && eqb z slot) (holder_at column h) (g h q z)) (column_stored f p slot column 8) rest (column-so-far 8 g rest (omega arith) a b s)
      (λ h q z c. ap (λ t. cond (t && (eqb q p && eqb z slot)) (holder_at column h) (g h q z)) (lt-ltb h 8 c.holder))

-- figures show what stands in them
pub self_shown : (f : List ℕ) → length f ≡ figure_count → Shows figure_slots 0 f (read_at figure_slots 0 f) (drop last_closed_at f)
self_shown f long =
    record {
      sized = long ∙ sym (ap (λ n. last_closed_at + n) (length-drop last_closed_at f ∙ ap (λ n. n - last_closed_at) long));
      each = λ h p slot c. refl;
      tail = λ k. sym (get_or-drop last_closed_at f k 0);
    }

-- and what stands in its columns is known
pub transferred_read : (column : ℕ → ℕ → (ℕ → ℕ) → ℕ → ℕ) (f f' : List ℕ) → length f ≡ figure_count → ColumnTransfer column f f' → (h p slot : ℕ) → HasCell figure_slots h p slot → read_at figure_slots 0 f' h p slot ≡ column p slot (in_column f p slot) h
transferred_read column f f' long t h p slot c = (t (read_at figure_slots 0 f) (drop last_closed_at f) (self_shown f long)).each h p slot c

-- one transfer after another
pub transferred_then : (first second both : ℕ → ℕ → (ℕ → ℕ) → ℕ → ℕ) (f one two : List ℕ) → ((p slot h : ℕ) (v : ℕ → ℕ) → HasCell figure_slots h p slot → second p slot (first p slot v) h ≡ both p slot v h) → ColumnTransfer first f one → ColumnTransfer second one two → ColumnTransfer both f two
transferred_then first second both f one two same a b g rest s =
    shows_agree figure_slots 0 _ (λ h p slot. both p slot (λ i. g i p slot) h) two rest
    (b (λ h p slot. first p slot (λ i. g i p slot) h) rest (a g rest s))
    (λ h p slot c. same p slot h (λ i. g i p slot) c)
