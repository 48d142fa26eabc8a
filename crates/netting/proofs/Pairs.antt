-- The cells of the pairs of eight holders: which cell is whose, and what one line more adds to them. Assumes nothing.
use Prim.Native.Nat.{ℕ, ◌+◌, ◌-◌, ◌*◌, ◌/◌, ◌%◌, ◌^◌, ◌≤◌, ◌<◌}
use mathlib.Core.Path.{◌≡◌, sym, ap, ap₂, ◌∙◌}
use mathlib.Core.Bool.{true, false, ◌&&◌}
use mathlib.Core.List.{List}
use mathlib.Core.Logic.{◌⊎◌, inl, inr}
use native.Mathlib.Nat.{le_trans, mul-le-mul}
use native.Mathlib.Numerals.{add-one}
use native.Mathlib.Omega.{arith}
use lib.ListN.{length, get_or, set, replicate, get_or-replicate}
use lib.Seq.{get_or-set_same, get_or-set_other}
use lib.Dec.{eqb}
use borrow.Author.Tests.{eqb-true, eq-eqb}
use Rattle.tariff.specs.Sum.{when_true, sum_to, tabulate}
use Rattle.netting.specs.Netting.{pair_at, pair_cells, SummableLines, watts_to}
use Rattle.tariff.proofs.Sums.{when_is_true, when_is_false, when_le, sum_bound}
use Rattle.tariff.proofs.Tests.{and_both, and_join, decided}
use Rattle.netting.proofs.Products.{line_product}
use Rattle.tariff.proofs.Lists.{length_tabulate, at_tabulate, list_is}

-- two pairs with one cell are the same pair
pub same_cell : (i j a b : ℕ) → j < 8 → b < 8 → i * 8 + j ≡ a * 8 + b → (i ≡ a) × (j ≡ b)
same_cell i j a b l m e =
    let row : i ≡ a = omega arith in
    (row, omega arith)

pub cell_below : (i j : ℕ) → i < 8 → j < 8 → i * 8 + j < 64
cell_below i j l m = omega arith

-- a store at the cell of a pair
pub stored_pair : (cells : List ℕ) (a b v i j : ℕ) → length cells ≡ 64 → a < 8 → b < 8 → j < 8 → pair_at (set cells (a * 8 + b) (pair_at cells a b + v)) i j ≡ pair_at cells i j + when_true (eqb a i && eqb b j) v
unfolding pair_at
stored_pair cells a b v i j len la lb lj = go (decided (eqb a i && eqb b j))
  where
    go : (eqb a i && eqb b j ≡ true) ⊎ (eqb a i && eqb b j ≡ false) → get_or (set cells (a * 8 + b) (get_or cells (a * 8 + b) 0 + v)) (i * 8 + j) 0 ≡ get_or cells (i * 8 + j) 0 + when_true (eqb a i && eqb b j) v
    go (inl t) =
        let both = and_both (eqb a i) (eqb b j) t in
        let p = eqb-true a i both.0 in
        let q = eqb-true b j both.1 in
        let cell : a * 8 + b ≡ i * 8 + j = omega arith in
        let here = get_or-set_same cells (a * 8 + b) (get_or cells (a * 8 + b) 0 + v) 0 (omega arith) in
        let at : get_or (set cells (a * 8 + b) (get_or cells (a * 8 + b) 0 + v)) (i * 8 + j) 0 ≡ get_or (set cells (a * 8 + b) (get_or cells (a * 8 + b) 0 + v)) (a * 8 + b) 0 = ap (λ k. get_or (set cells (a * 8 + b) (get_or cells (a * 8 + b) 0 + v)) k 0) (sym cell) in
        let old = ap (λ k. get_or cells k 0) cell in
        let own = when_is_true v t in
        omega arith
    go (inr t) =
        let other = get_or-set_other cells (a * 8 + b) (i * 8 + j) (get_or cells (a * 8 + b) 0 + v) 0 (λ e. apart e) in
        let none = when_is_false v t in
        omega arith
      where
        apart : i * 8 + j ≡ a * 8 + b → ⊥
        apart e =
            let s = same_cell i j a b lj lb e in
            let yes : (eqb a i && eqb b j) ≡ true = and_join (eq-eqb a i (sym s.0)) (eq-eqb b j (sym s.1)) in
            let z : ◌≡◌ {A = ℕ} 0 1 = cc in
            omega arith

-- the cells hold the products of the first k lines
abbrev pub HoldsWatts : List ℕ → List ℕ → List ℕ → List ℕ → ℕ → List ℕ → Type 0
HoldsWatts froms tos customers watts k cells = (i j : ℕ) → i < 8 → j < 8 → pair_at cells i j ≡ watts_to froms tos customers watts k i j

pub no_watts : (froms tos customers watts : List ℕ) → HoldsWatts froms tos customers watts 0 (replicate 64 0)
unfolding pair_at watts_to sum_to
no_watts froms tos customers watts i j l m = get_or-replicate 64 (i * 8 + j) 0 0 (omega arith)

-- one line more
pub more_watts : (froms tos customers watts : List ℕ) (k : ℕ) (cells : List ℕ) → length cells ≡ 64 → get_or froms k 0 < 8 → get_or tos k 0 < 8 → HoldsWatts froms tos customers watts k cells → HoldsWatts froms tos customers watts (k + 1) (set cells (get_or froms k 0 * 8 + get_or tos k 0) (pair_at cells (get_or froms k 0) (get_or tos k 0) + get_or customers k 0 * get_or watts k 0))
unfolding watts_to sum_to
more_watts froms tos customers watts k cells len la lb old i j l m =
    stored_pair cells (get_or froms k 0) (get_or tos k 0) (get_or customers k 0 * get_or watts k 0) i j len la lb m
    ∙ ap (λ s. s + when_true (eqb (get_or froms k 0) i && eqb (get_or tos k 0) j) (get_or customers k 0 * get_or watts k 0)) (old i j l m)
    ∙ ap (λ n. watts_to froms tos customers watts n i j) (sym (add-one k))

-- and they stay far below 2 ^ 64
pub watts_bound : (froms tos customers watts : List ℕ) → SummableLines froms tos customers watts → (k i j : ℕ) → k ≤ length froms → watts_to froms tos customers watts k i j ≤ k * (9999999 * 9999999)
unfolding watts_to
watts_bound froms tos customers watts s k i j h =
    sum_bound (9999999 * 9999999) k (λ q l. le_trans (when_le (eqb (get_or froms q 0) i && eqb (get_or tos q 0) j) (get_or customers q 0 * get_or watts q 0)) (mul-le-mul (s.sizes q (omega arith)).0 (s.sizes q (omega arith)).1))

-- so there is room for the next line's
pub watts_room : (froms tos customers watts : List ℕ) → SummableLines froms tos customers watts → (k : ℕ) (cells : List ℕ) → k < length froms → HoldsWatts froms tos customers watts k cells → (line : ℕ) → line ≡ get_or customers k 0 * get_or watts k 0 → pair_at cells (get_or froms k 0) (get_or tos k 0) + line < 2 ^ 64
watts_room froms tos customers watts s k cells l old line e =
    let held = old (get_or froms k 0) (get_or tos k 0) (s.holders k l).0 (s.holders k l).1 in
    let before = watts_bound froms tos customers watts s k (get_or froms k 0) (get_or tos k 0) (omega arith) in
    let own = line_product (s.sizes k l).0 (s.sizes k l).1 in
    let few = s.few in
    omega arith

-- the cells after a turn of the loop, and after the last
pub next_watts : (froms tos customers watts : List ℕ) (k : ℕ) (cells next : List ℕ) (line : ℕ) → SummableLines froms tos customers watts → k < length froms → length cells ≡ 64 → line ≡ get_or customers k 0 * get_or watts k 0 → next ≡ set cells (get_or froms k 0 * 8 + get_or tos k 0) (pair_at cells (get_or froms k 0) (get_or tos k 0) + line) → HoldsWatts froms tos customers watts k cells → HoldsWatts froms tos customers watts (k + 1) next
next_watts froms tos customers watts k cells next line s l len e stored old i j li lj =
    ap (λ x. pair_at x i j) (stored ∙ ap (λ v. set cells (get_or froms k 0 * 8 + get_or tos k 0) (pair_at cells (get_or froms k 0) (get_or tos k 0) + v)) e)
    ∙ more_watts froms tos customers watts k cells len (s.holders k l).0 (s.holders k l).1 old i j li lj

-- a cell is that of the pair of its quotient and its rest
pub cell_of_pair : (cells : List ℕ) (k : ℕ) → pair_at cells (k / 8) (k % 8) ≡ get_or cells k 0
unfolding pair_at
cell_of_pair cells k = ap (λ i. get_or cells i 0) (let e : k / 8 * 8 + k % 8 ≡ k = omega arith in e)

-- what stands in the cells of a pair
pub pair_of_cells : (f : ℕ → ℕ → ℕ) (i j : ℕ) → i < 8 → j < 8 → pair_at (pair_cells f) i j ≡ f i j
unfolding pair_at pair_cells
pair_of_cells f i j li lj =
    at_tabulate 64 (λ k. f (k / 8) (k % 8)) 0 (i * 8 + j) (omega arith)
    ∙ ap₂ f (let e : (i * 8 + j) / 8 ≡ i = omega arith in e) (let e : (i * 8 + j) % 8 ≡ j = omega arith in e)

-- two functions that agree on the pairs of eight holders have the same cells
pub same_cells : (f g : ℕ → ℕ → ℕ) → ((i j : ℕ) → i < 8 → j < 8 → f i j ≡ g i j) → pair_cells f ≡ pair_cells g
unfolding pair_cells
same_cells f g same =
    list_is 64 (λ k. g (k / 8) (k % 8)) (tabulate 64 (λ k. f (k / 8) (k % 8))) (length_tabulate 64 (λ k. f (k / 8) (k % 8)))
    (λ k l. at_tabulate 64 (λ k. f (k / 8) (k % 8)) 0 k l ∙ same (k / 8) (k % 8) (omega arith) (omega arith))

-- the m of a cell, from the cell and that of the way back
abbrev pub net_cell : List ℕ → ℕ → ℕ
net_cell watts k = (get_or watts k 0 - get_or watts (k % 8 * 8 + k / 8) 0) / 1000

pub net_cells : (watts : List ℕ) → tabulate 64 (net_cell watts) ≡ pair_cells (λ i j. (pair_at watts i j - pair_at watts j i) / 1000)
unfolding pair_cells pair_at
net_cells watts =
    list_is 64 (λ k. (pair_at watts (k / 8) (k % 8) - pair_at watts (k % 8) (k / 8)) / 1000) (tabulate 64 (net_cell watts)) (length_tabulate 64 (net_cell watts))
    (λ k l. at_tabulate 64 (net_cell watts) 0 k l ∙ ap (λ x. (x - pair_at watts (k % 8) (k / 8)) / 1000) (sym (cell_of_pair watts k)))
