-- What a migration makes of a column, in the array and in the ledger's terms; and that nothing on the way passes 64 bits. Assumes nothing.
use Prim.Native.Nat.{ℕ, ◌+◌, ◌-◌, ◌*◌, ◌/◌, ◌^◌, ◌≤◌, ◌<◌}
use mathlib.Core.Path.{◌≡◌, refl, sym, ap, ◌∙◌}
use mathlib.Core.Bool.{true, false, cond, ◌&&◌}
use mathlib.Core.List.{List}
use mathlib.Core.Logic.{◌⊎◌, inl, inr}
use native.Mathlib.Nat.{le_trans, le_of_eq, lt_of_le_of_lt, mul-zero, zero-mul, zero-div}
use native.Mathlib.Omega.{arith}
use lib.ListN.{length, get_or}
use Rattle.std.specs.Prelude.{EachIndex}
use lib.Dec.{ltb, eqb}
use borrow.Author.Tests.{ltb-true, ltb-false, eqb-true}
use Rattle.tariff.specs.Sum.{sum_to}
use Rattle.tariff.specs.Ranges.{max_kw}
use Rattle.netting.specs.Migration.{share, shares, transferred, lost_by}
use Rattle.netting.specs.Netting.{pair_at, holder_at, column_cells, ProductsFit, PartsFit, share_cells, transferred_cells}
use Rattle.tariff.proofs.Tests.{and_both, decided}
use Rattle.tariff.proofs.Sums.{sum_ext, sum_zero, term_le_sum}
use Rattle.netting.proofs.Transfers.{shares_fit}
use Rattle.tariff.proofs.Lists.{at_tabulate}
use Rattle.netting.proofs.Pairs.{pair_of_cells}
use Rattle.ledger.proofs.Bounds.{one_fits, share_product_fits}
use Rattle.slots.specs.Layout.{figure_slots}
use Rattle.slots.specs.Sums.{max_figure}
use Rattle.slots.proofs.CellLaws.{shows_agree}
use Rattle.transfers.specs.declared.transfers.Transfer.{Transfer}
use Rattle.netting.proofs.ShareCells.{share_with_nothing}
use Rattle.transfers.specs.Columns.{HasColumn, in_column, column_at, column_stored, ColumnTransfer}
use Rattle.transfers.specs.Transfers.{load_column, share_column, column_where, LossesWithinLoads, ColumnFits}
use Rattle.transfers.proofs.ColumnLaws.{column_holder, column_cell, shows_column}

-- with no m goes no share
no_share : (m : ℕ → ℕ → ℕ) (L v : ℕ → ℕ) (i j : ℕ) → m i j ≡ 0 → shares m L v i j ≡ 0
unfolding shares
no_share m L v i j e = sym (share_with_nothing (v i) (m i j) (L i) e)

share_of_nothing : (m : ℕ → ℕ → ℕ) (L v : ℕ → ℕ) (i j : ℕ) → v i ≡ 0 → shares m L v i j ≡ 0
unfolding shares share
share_of_nothing m L v i j e = ap (λ y. y * m i j / L i) e ∙ ap (λ y. y / L i) (zero-mul (m i j)) ∙ zero-div (L i)

-- parts that only the first n holders have: nobody else's entry changes
pub nothing_transferred : (n : ℕ) (part : ℕ → ℕ → ℕ) (v : ℕ → ℕ) (h : ℕ) → ((j : ℕ) → j < n → part h j ≡ 0) → ((j : ℕ) → j < n → part j h ≡ 0) → transferred n part v h ≡ v h
unfolding transferred
nothing_transferred n part v h given gained =
    let a = sum_zero {f = λ j. part h j} n given in
    let b = sum_zero {f = λ j. part j h} n gained in
    omega arith

-- parts and entries that agree on the eight holders
pub transferred_ext : (n : ℕ) (part other : ℕ → ℕ → ℕ) (v w : ℕ → ℕ) (h : ℕ) → n ≤ 8 → h < 8 → ((i j : ℕ) → i < 8 → j < 8 → part i j ≡ other i j) → v h ≡ w h → transferred n part v h ≡ transferred n other w h
unfolding transferred
transferred_ext n part other v w h few l same is =
    λ i. is i - sum_ext {f = λ j. part h j} {g = λ j. other h j} n (λ j b. same h j l (omega arith)) i + sum_ext {f = λ j. part j h} {g = λ j. other j h} n (λ j b. same j h (omega arith) l) i

transferred_entry : (n : ℕ) (column parts : List ℕ) (part : ℕ → ℕ → ℕ) → n ≤ 8 → ((i j : ℕ) → i < 8 → j < 8 → pair_at parts i j ≡ part i j) → ((i j : ℕ) → i < 8 → j < 8 → (n ≤ i) ⊎ (n ≤ j) → part i j ≡ 0) → (h : ℕ) → h < 8 → holder_at (transferred_cells n column parts) h ≡ transferred n part (holder_at column) h
unfolding holder_at transferred_cells column_cells
transferred_entry n column parts part few same others h l =
    at_tabulate 8 (λ i. cond (ltb i n) (transferred n (pair_at parts) (holder_at column) i) (holder_at column i)) 0 h l ∙ go (decided (ltb h n))
  where
    go : (ltb h n ≡ true) ⊎ (ltb h n ≡ false) → cond (ltb h n) (transferred n (pair_at parts) (holder_at column) h) (holder_at column h) ≡ transferred n part (holder_at column) h
    go (inl t) = ap (λ b. cond b (transferred n (pair_at parts) (holder_at column) h) (holder_at column h)) t ∙ transferred_ext n (pair_at parts) part (holder_at column) (holder_at column) h few l same refl
    go (inr t) =
        let past = ltb-false h n t in
        ap (λ b. cond b (transferred n (pair_at parts) (holder_at column) h) (holder_at column h)) t
        ∙ sym (nothing_transferred n part (holder_at column) h (λ j b. others h j l (omega arith) (inl past)) (λ j b. others j h (omega arith) l (inr past)))

-- columns that agree on the eight holders are shared alike
pub share_ext : (x : Transfer) (v w : ℕ → ℕ) (h : ℕ) → x.holders ≤ 8 → h < 8 → ((i : ℕ) → i < 8 → v i ≡ w i) → share_column x v h ≡ share_column x w h
unfolding share_column shares
share_ext x v w h few l same = transferred_ext x.holders _ _ v w h few l (λ i j a b. ap (λ y. share y (pair_at x.m i j) (holder_at x.load i)) (same i a)) (same h l)

pub load_ext : (x : Transfer) (v w : ℕ → ℕ) (h : ℕ) → x.holders ≤ 8 → h < 8 → ((i : ℕ) → i < 8 → v i ≡ w i) → load_column x v h ≡ load_column x w h
unfolding load_column
load_ext x v w h few l same = transferred_ext x.holders (pair_at x.m) (pair_at x.m) v w h few l (λ i j a b. refl) (same h l)

module _ (x : Transfer) (ok : LossesWithinLoads x) where
  -- an m is at most its loser's load
  m-fits : (i j : ℕ) → i < x.holders → j < x.holders → pair_at x.m i j ≤ 8 * max_kw
  m-fits i j li lj =
      le_trans (term_le_sum (λ k. pair_at x.m i k) x.holders j lj)
      (le_trans (ok.covered i li) (one_fits (holder_at x.load) x.holders (8 * max_kw) i li ok.loads))

  pub products_fit : (column : List ℕ) → ColumnFits x (holder_at column) → ProductsFit column x.m
  products_fit column fits i j li lj = go (decided (ltb i x.holders)) (decided (ltb j x.holders))
    where
      none : pair_at x.m i j ≡ 0 → holder_at column i * pair_at x.m i j < 2 ^ 64
      none e = lt_of_le_of_lt (le_of_eq (ap (λ y. holder_at column i * y) e ∙ mul-zero (holder_at column i))) (omega arith)

      go : (ltb i x.holders ≡ true) ⊎ (ltb i x.holders ≡ false) → (ltb j x.holders ≡ true) ⊎ (ltb j x.holders ≡ false) → holder_at column i * pair_at x.m i j < 2 ^ 64
      go (inl a) (inl b) =
          let ri = ltb-true i x.holders a in
          let rj = ltb-true j x.holders b in
          share_product_fits (holder_at column i) (pair_at x.m i j) (one_fits (holder_at column) x.holders max_figure i ri fits) (m-fits i j ri rj)
      go (inr a) b = none (ok.others i j li lj (inl (ltb-false i x.holders a)))
      go (inl a) (inr b) = none (ok.others i j li lj (inr (ltb-false j x.holders b)))

  -- what is known of the column that was read
  pub column_fits : (f : List ℕ) (p slot : ℕ) (column : List ℕ) → column ≡ column_at f p slot → ColumnFits x (in_column f p slot) → ColumnFits x (holder_at column)
  column_fits f p slot column read fits = le_trans (le_of_eq (sum_ext {f = holder_at column} {g = in_column f p slot} x.holders (λ i l. ap (λ c. holder_at c i) read ∙ column_holder f p slot i (let few = ok.few in omega arith)))) fits

  share-at : (column parts : List ℕ) → parts ≡ share_cells column x.m x.load → (i j : ℕ) → i < 8 → j < 8 → pair_at parts i j ≡ shares (pair_at x.m) (holder_at x.load) (holder_at column) i j
  unfolding share_cells
  share-at column parts e i j li lj = ap (λ c. pair_at c i j) e ∙ pair_of_cells (shares (pair_at x.m) (holder_at x.load) (holder_at column)) i j li lj

  pub parts_fit : (column parts : List ℕ) → ColumnFits x (holder_at column) → parts ≡ share_cells column x.m x.load → PartsFit x.holders column parts
  unfolding lost_by
  parts_fit column parts fits e = record { few = ok.few; given = given; together = omega arith }
    where
      given : (i : ℕ) → i < x.holders → sum_to x.holders (λ j. pair_at parts i j) ≤ holder_at column i
      given i l =
          let few = ok.few in
          le_trans (le_of_eq (sum_ext {f = λ j. pair_at parts i j} {g = λ j. shares (pair_at x.m) (holder_at x.load) (holder_at column) i j} x.holders (λ j b. share-at column parts e i j (omega arith) (omega arith))))
          (shares_fit x.holders (pair_at x.m) (holder_at x.load) (holder_at column) i (ok.covered i l))

  -- the column that the code makes is the one that moved
  pub column_shared : (f : List ℕ) (p slot : ℕ) (column parts next : List ℕ) → column ≡ column_at f p slot → parts ≡ share_cells column x.m x.load → next ≡ transferred_cells x.holders column parts → (h : ℕ) → h < 8 → holder_at next h ≡ share_column x (in_column f p slot) h
  unfolding share_column
  column_shared f p slot column parts next read shared made h l =
      ap (λ c. holder_at c h) made
      ∙ transferred_entry x.holders column parts (shares (pair_at x.m) (holder_at x.load) (holder_at column)) ok.few (share-at column parts shared) (λ i j li lj past. no_share (pair_at x.m) (holder_at x.load) (holder_at column) i j (ok.others i j li lj past)) h l
      ∙ share_ext x (holder_at column) (in_column f p slot) h ok.few l (λ i b. ap (λ c. holder_at c i) read ∙ column_holder f p slot i b)

  -- and so is that of the loads
  pub load_shared : (f : List ℕ) (p slot : ℕ) (next : List ℕ) → x.load ≡ column_at f p slot → next ≡ transferred_cells x.holders x.load x.m → (h : ℕ) → h < 8 → holder_at next h ≡ load_column x (in_column f p slot) h
  unfolding load_column
  load_shared f p slot next read made h l =
      ap (λ c. holder_at c h) made
      ∙ transferred_entry x.holders x.load x.m (pair_at x.m) ok.few (λ i j li lj. refl) ok.others h l
      ∙ load_ext x (holder_at x.load) (in_column f p slot) h ok.few l (λ i b. ap (λ c. holder_at c i) read ∙ column_holder f p slot i b)

  -- of a column that holds nothing, nothing goes over
  pub nothing_shared : (v : ℕ → ℕ) (h : ℕ) → h < 8 → ((i : ℕ) → i < 8 → v i ≡ 0) → share_column x v h ≡ v h
  unfolding share_column
  nothing_shared v h l none = nothing_transferred x.holders (shares (pair_at x.m) (holder_at x.load) v) v h (λ j b. nothing h j l) (λ j b. nothing j h (let few = ok.few in omega arith))
    where
      nothing : (i j : ℕ) → i < 8 → shares (pair_at x.m) (holder_at x.load) v i j ≡ 0
      nothing i j b = share_of_nothing (pair_at x.m) (holder_at x.load) v i j (none i b)

-- a stored column, as a transfer of that column alone
pub column_transferred : (f f' : List ℕ) (p slot : ℕ) (next : List ℕ) (column : (ℕ → ℕ) → ℕ → ℕ) → HasColumn p slot → ((v w : ℕ → ℕ) (h : ℕ) → h < 8 → ((i : ℕ) → i < 8 → v i ≡ w i) → column v h ≡ column w h) → ((h : ℕ) → h < 8 → holder_at next h ≡ column (in_column f p slot) h) → f' ≡ column_stored f p slot next 8 → ColumnTransfer (column_where (λ q j. eqb q p && eqb j slot) column) f f'
unfolding column_where
column_transferred f f' p slot next column there ext is made g rest s =
    rw made
    (shows_agree figure_slots 0 _ (λ h q z. cond (eqb q p && eqb z slot) (column (λ i. g i q z) h) (g h q z)) (column_stored f p slot next 8) rest
    (shows_column f p slot next g rest there.place there.in_row s)
    (λ h q z c. go h q z c.holder (decided (eqb q p && eqb z slot))))
  where
    go : (h q z : ℕ) → h < 8 → ((eqb q p && eqb z slot) ≡ true) ⊎ ((eqb q p && eqb z slot) ≡ false) → cond (eqb q p && eqb z slot) (holder_at next h) (g h q z) ≡ cond (eqb q p && eqb z slot) (column (λ i. g i q z) h) (g h q z)
    go h q z l (inl t) =
        let both = and_both (eqb q p) (eqb z slot) t in
        let a = eqb-true q p both.0 in
        let b = eqb-true z slot both.1 in
        ap (λ u. cond (eqb q p && eqb z slot) u (g h q z)) (is h l ∙ ext (in_column f p slot) (λ i. g i q z) h l (λ i k. s.each i p slot (column_cell p slot i there k) ∙ (λ t. g i (sym a t) (sym b t))))
    go h q z l (inr t) =
        ap (λ u. cond u (holder_at next h) (g h q z)) t
        ∙ sym (ap (λ u. cond u (column (λ i. g i q z) h) (g h q z)) t)

-- a column that holds nothing, left as it is
pub column_left : (f : List ℕ) (p slot : ℕ) (x : Transfer) → HasColumn p slot → LossesWithinLoads x → ((i : ℕ) → i < 8 → in_column f p slot i ≡ 0) → ColumnTransfer (column_where (λ q j. eqb q p && eqb j slot) (share_column x)) f f
unfolding column_where
column_left f p slot x there ok none g rest s =
    shows_agree figure_slots 0 g (λ h q z. cond (eqb q p && eqb z slot) (share_column x (λ i. g i q z) h) (g h q z)) f rest s (λ h q z c. go h q z c.holder (decided (eqb q p && eqb z slot)))
  where
    go : (h q z : ℕ) → h < 8 → ((eqb q p && eqb z slot) ≡ true) ⊎ ((eqb q p && eqb z slot) ≡ false) → g h q z ≡ cond (eqb q p && eqb z slot) (share_column x (λ i. g i q z) h) (g h q z)
    go h q z l (inl t) =
        let both = and_both (eqb q p) (eqb z slot) t in
        let a = eqb-true q p both.0 in
        let b = eqb-true z slot both.1 in
        sym (nothing_shared x ok (λ i. g i q z) h l (λ i k. (λ t. g i (a t) (b t)) ∙ sym (s.each i p slot (column_cell p slot i there k)) ∙ none i k))
        ∙ sym (ap (λ u. cond u (share_column x (λ i. g i q z) h) (g h q z)) t)
    go h q z l (inr t) = sym (ap (λ u. cond u (share_column x (λ i. g i q z) h) (g h q z)) t)

-- a column that was read and found empty
pub empty_column : (f : List ℕ) (p slot : ℕ) (column : List ℕ) → column ≡ column_at f p slot → length column ≡ 8 → EachIndex column (λ h. get_or column h 0 ≡ 0) → (i : ℕ) → i < 8 → in_column f p slot i ≡ 0
unfolding holder_at
empty_column f p slot column read long none i l =
    sym (column_holder f p slot i l) ∙ ap (λ xs. get_or xs i 0) (sym read) ∙ none i (omega arith)
