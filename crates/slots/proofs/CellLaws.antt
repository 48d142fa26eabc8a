-- Laws of flat arrays: one cell to a holder, a place and a slot; the array of a function shows it, two arrays that show the same are equal, and
-- one stored cell changes the function in one place. One law for every width. Assumes nothing.
use Prim.Native.Nat.{ℕ, suc, ◌+◌, ◌-◌, ◌*◌, ◌/◌, ◌%◌, ◌≤◌, ◌<◌}
use mathlib.Core.Path.{◌≡◌, refl, sym, ap, ◌∙◌}
use mathlib.Core.Bool.{true, false, cond}
use mathlib.Core.List.{List, ◌++◌}
use mathlib.Core.Logic.{◌⊎◌, inl, inr}
use native.Mathlib.Nat.{mul-add-div_right, div-eq_of_lt, mul-add-mod_self_right, mod-eq_of_lt, div-lt_iff_lt-mul, mod-lt, div-add-mod', mul-le-mul_right, suc-mul}
use native.Mathlib.Omega.{arith}
use lib.ListN.{length, get_or, set, length-set, length-append, get_or-append}
use lib.Seq.{ext_get_or, get_or-set_same, get_or-set_other, get_or-append-add}
use lib.Dec.{ltb}
use borrow.Author.Tests.{ltb-true, ltb-false, eq-eqb}
use Rattle.tariff.specs.Sum.{tabulate}
use Rattle.tariff.proofs.Tests.{and_join, decided, both_ways}
use Rattle.tariff.proofs.Lists.{length_tabulate, at_tabulate}
use Rattle.ledger.specs.Effects.{same3}
use Rattle.ledger.proofs.TiersSound.{same_place}
use Rattle.slots.specs.Cells.{rows, cell_of, HasCell, read_at, stored_at, added_at, array_of, Shows}
use Rattle.slots.specs.Layout.{figure_slots}

-- a row and a slot in it, from the number of the cell
row_of : (width a r : ℕ) → r < width → (a * width + r) / width ≡ a
row_of width a r l = mul-add-div_right (omega arith) a r ∙ (let e = div-eq_of_lt l in omega arith)

slot_of : (width a r : ℕ) → r < width → (a * width + r) % width ≡ r
slot_of width a r l = mul-add-mod_self_right a width r ∙ mod-eq_of_lt l

row_at : (width h p slot : ℕ) → HasCell width h p slot → cell_of width h p slot / width ≡ h * 16 + p
unfolding cell_of
row_at width h p slot c = row_of width (h * 16 + p) slot c.in_row

slot_at : (width h p slot : ℕ) → HasCell width h p slot → cell_of width h p slot % width ≡ slot
unfolding cell_of
slot_at width h p slot c = slot_of width (h * 16 + p) slot c.in_row

cell_back : (width k : ℕ) → cell_of width (k / width / 16) (k / width % 16) (k % width) ≡ k
unfolding cell_of
cell_back width k =
    ap (λ row. row * width + k % width) row ∙ div-add-mod' k width
  where
    row : k / width / 16 * 16 + k / width % 16 ≡ k / width
    row = omega arith

-- a cell is below the array's end ..
pub cell_below : (width h p slot : ℕ) → HasCell width h p slot → cell_of width h p slot < rows * width
unfolding cell_of
cell_below width h p slot c =
    let room : suc (h * 16 + p) * width ≤ rows * width = mul-le-mul_right width (let a = c.holder in let b = c.place in omega arith) in
    omega (arith, suc-mul (h * 16 + p) width, c.in_row)

-- .. and every number below it is a cell's
cell_of_lem : (width k : ℕ) → 0 < width → k < rows * width → HasCell width (k / width / 16) (k / width % 16) (k % width)
cell_of_lem width k pos l =
    let row : k / width < rows = (div-lt_iff_lt-mul pos).1 l in
    record { holder = omega arith; place = omega arith; in_row = mod-lt k pos }

-- one cell to a holder, a place and a slot
one_cell : (width a b c h p slot : ℕ) → HasCell width a b c → HasCell width h p slot → cell_of width a b c ≡ cell_of width h p slot → same3 a b c h p slot ≡ true
unfolding same3
one_cell width a b c h p slot there here e =
    let row_eq : a * 16 + b ≡ h * 16 + p = sym (row_at width a b c there) ∙ ap (λ k. k / width) e ∙ row_at width h p slot here in
    let slots : c ≡ slot = sym (slot_at width a b c there) ∙ ap (λ k. k % width) e ∙ slot_at width h p slot here in
    let u = there.place in
    let v = here.place in
    let row : h ≡ a = omega arith in
    and_join (and_join (eq-eqb h a row) (eq-eqb p b (omega arith))) (eq-eqb slot c (sym slots))

module _ {A : Type 0} where
  -- what stands in a cell after one was stored
  read-stored : (width : ℕ) (none v : A) (cells : List A) (a b c h p slot : ℕ) → rows * width ≤ length cells → HasCell width a b c → HasCell width h p slot → read_at width none (stored_at width cells a b c v) h p slot ≡ cond (same3 a b c h p slot) v (read_at width none cells h p slot)
  unfolding read_at stored_at
  read-stored width none v cells a b c h p slot long there here = go (decided (same3 a b c h p slot))
    where
      at : ℕ
      at = cell_of width a b c

      go : (same3 a b c h p slot ≡ true) ⊎ (same3 a b c h p slot ≡ false) → get_or (set cells (cell_of width a b c) v) (cell_of width h p slot) none ≡ cond (same3 a b c h p slot) v (get_or cells (cell_of width h p slot) none)
      go (inl s) =
          let w = same_place a b c h p slot s in
          (λ i. get_or (set cells (cell_of width a b c) v) (cell_of width (w.0 i) (w.1 i) (w.2 i)) none)
          ∙ get_or-set_same cells (cell_of width a b c) v none (let l = cell_below width a b c there in omega arith)
          ∙ sym (ap (λ t. cond t v (get_or cells (cell_of width h p slot) none)) s)
      go (inr s) =
          get_or-set_other cells (cell_of width a b c) (cell_of width h p slot) v none (λ e. both_ways (one_cell width a b c h p slot there here (sym e)) s)
          ∙ sym (ap (λ t. cond t v (get_or cells (cell_of width h p slot) none)) s)

  -- the array of a function shows it
  pub array_shows : (width : ℕ) (none : A) (f : ℕ → ℕ → ℕ → A) (rest : List A) → Shows width none (array_of width f rest) f rest
  unfolding array_of read_at
  array_shows width none f rest =
      record {
        sized = length-append cells rest ∙ ap (λ n. n + length rest) long;
        each = λ h p slot c. at h p slot c;
        tail = λ k. ap (λ n. get_or (cells ++ rest) (n + k) none) (sym long) ∙ get_or-append-add cells rest k none;
      }
    where
      from : ℕ → A
      from k = f (k / width / 16) (k / width % 16) (k % width)

      cells : List A
      cells = tabulate (rows * width) from

      long : length cells ≡ rows * width
      long = length_tabulate (rows * width) from

      at : (h p slot : ℕ) → HasCell width h p slot → get_or (cells ++ rest) (cell_of width h p slot) none ≡ f h p slot
      at h p slot c =
          get_or-append cells rest none (cell_of width h p slot) (let l = cell_below width h p slot c in let e = long in omega arith)
          ∙ at_tabulate (rows * width) from none (cell_of width h p slot) (cell_below width h p slot c)
          ∙ (λ i. f (row i) (column i) (slot_at width h p slot c i))
        where
          above : cell_of width h p slot / width ≡ h * 16 + p
          above = row_at width h p slot c

          row : cell_of width h p slot / width / 16 ≡ h
          row = ap (λ k. k / 16) above ∙ (let q = c.place in omega arith)

          column : cell_of width h p slot / width % 16 ≡ p
          column = ap (λ k. k % 16) above ∙ (let q = c.place in omega arith)

  -- two arrays that show the same are equal
  pub shows_same : (width : ℕ) (none : A) (f g : ℕ → ℕ → ℕ → A) (xs ys rest : List A) → 0 < width → Shows width none xs f rest → Shows width none ys g rest → ((h p slot : ℕ) → HasCell width h p slot → f h p slot ≡ g h p slot) → xs ≡ ys
  unfolding read_at
  shows_same width none f g xs ys rest pos a b same = ext_get_or none xs ys (a.sized ∙ sym b.sized) (λ k l. go k (decided (ltb k (rows * width))))
    where
      go : (k : ℕ) → (ltb k (rows * width) ≡ true) ⊎ (ltb k (rows * width) ≡ false) → get_or xs k none ≡ get_or ys k none
      go k (inl t) =
          let c = cell_of_lem width k pos (ltb-true k (rows * width) t) in
          ap (λ i. get_or xs i none) (sym (cell_back width k))
          ∙ a.each _ _ _ c
          ∙ same _ _ _ c
          ∙ sym (b.each _ _ _ c)
          ∙ ap (λ i. get_or ys i none) (cell_back width k)
      go k (inr t) =
          let past = ltb-false k (rows * width) t in
          let e : k ≡ rows * width + (k - rows * width) = omega arith in
          ap (λ i. get_or xs i none) e ∙ a.tail (k - rows * width) ∙ sym (b.tail (k - rows * width)) ∙ ap (λ i. get_or ys i none) (sym e)

  -- an array that shows a function is the function's array
  pub shown_is : (width : ℕ) (none : A) (f : ℕ → ℕ → ℕ → A) (xs rest : List A) → 0 < width → Shows width none xs f rest → xs ≡ array_of width f rest
  shown_is width none f xs rest pos a = shows_same width none f f xs (array_of width f rest) rest pos a (array_shows width none f rest) (λ h p slot c. refl)

  -- it shows every function that agrees on the cells
  pub shows_agree : (width : ℕ) (none : A) (f g : ℕ → ℕ → ℕ → A) (xs rest : List A) → Shows width none xs f rest → ((h p slot : ℕ) → HasCell width h p slot → f h p slot ≡ g h p slot) → Shows width none xs g rest
  shows_agree width none f g xs rest a same = record { sized = a.sized; each = λ h p slot c. a.each h p slot c ∙ same h p slot c; tail = a.tail }

  -- one stored cell
  pub shows_stored : (width : ℕ) (none v : A) (f : ℕ → ℕ → ℕ → A) (xs rest : List A) (a b c : ℕ) → Shows width none xs f rest → HasCell width a b c → Shows width none (stored_at width xs a b c v) (λ h p slot. cond (same3 a b c h p slot) v (f h p slot)) rest
  unfolding stored_at
  shows_stored width none v f xs rest a b c s there =
      record {
        sized = long ∙ s.sized;
        each = λ h p slot here. read-stored width none v xs a b c h p slot (let e = s.sized in omega arith) there here ∙ ap (cond (same3 a b c h p slot) v) (s.each h p slot here);
        tail = λ k. past k ∙ s.tail k;
      }
    where
      long : length (stored_at width xs a b c v) ≡ length xs
      long = length-set xs (cell_of width a b c) v

      past : (k : ℕ) → get_or (stored_at width xs a b c v) (rows * width + k) none ≡ get_or xs (rows * width + k) none
      past k = get_or-set_other xs (cell_of width a b c) (rows * width + k) v none (λ e. let l = cell_below width a b c there in omega (arith, e))

-- no array has wider rows than the figures, so the numbers of cells are small
pub cell_small : (width h p slot : ℕ) → width ≤ figure_slots → HasCell width h p slot → (h * 16 + p) * width + slot < 8192
unfolding cell_of
cell_small width h p slot w c = let l = cell_below width h p slot c in omega arith

-- an addition leaves the other slots of its row
pub read_added : (width : ℕ) (cells : List ℕ) (h p slot kw other : ℕ) → HasCell width h p slot → HasCell width h p other → (other ≡ slot → ⊥) → read_at width 0 (added_at width cells h p slot kw) h p other ≡ read_at width 0 cells h p other
unfolding added_at stored_at read_at
read_added width cells h p slot kw other there here ne = get_or-set_other cells (cell_of width h p slot) (cell_of width h p other) _ 0 (λ e. ne (sym (slot_at width h p other here) ∙ ap (λ k. k % width) e ∙ slot_at width h p slot there))
