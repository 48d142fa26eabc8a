-- Class lines and pairs of holders as code has them: a list of numbers for each field, and 64 cells for the pairs of eight holders.
use Rattle.std.specs.Prelude.{ℕ, ◌+◌, ◌*◌, ◌/◌, ◌%◌, ◌^◌, ◌≤◌, ◌<◌, ◌≡◌, Bool, cond, not, ◌&&◌, ◌||◌, List, Option, Some, None, length, get_or, leb, ltb, eqb}
use Rattle.netting.specs.declared.netting.ClassLine.{ClassLine}
use Rattle.tariff.specs.Sizes.{max_holders, holder_pairs, max_class_lines, max_customers, max_watts}
use Rattle.tariff.specs.Sum.{when_true, sum_to, any_of, tabulate}
use Rattle.netting.specs.Migration.{netted, shares, transferred}
use Rattle.netting.specs.ClassRanges.{class_line_out_of_range}

-- what stands at a pair of holders, and at a holder
unfoldable pub pair_at : List ℕ → ℕ → ℕ → ℕ
pair_at cells i j = get_or cells (i * max_holders + j) 0

unfoldable pub holder_at : List ℕ → ℕ → ℕ
holder_at column i = get_or column i 0

-- the cells of all pairs of eight holders, and a column of eight
unfoldable pub pair_cells : (ℕ → ℕ → ℕ) → List ℕ
pair_cells f = tabulate holder_pairs (λ k. f (k / max_holders) (k % max_holders))

unfoldable pub column_cells : (ℕ → ℕ) → List ℕ
column_cells f = tabulate max_holders f

-- the class lines whose fields stand in five lists: line k has the k-th number of each
abbrev pub class_line_at : List ℕ → List ℕ → List ℕ → List ℕ → List ℕ → ℕ → ClassLine
class_line_at froms tos classes customers watts k = record { from = get_or froms k 0; to = get_or tos k 0; class = get_or classes k 0; customers = get_or customers k 0; watts = get_or watts k 0 }

unfoldable pub class_lines_of : List ℕ → List ℕ → List ℕ → List ℕ → List ℕ → List ClassLine
class_lines_of froms tos classes customers watts = tabulate (length froms) (class_line_at froms tos classes customers watts)

-- a line that must not reach the sums: a holder past the eighth, or a field outside its range
unfoldable pub unfit_line : ClassLine → Bool
unfit_line l = leb max_holders l.from || leb max_holders l.to || class_line_out_of_range l

-- each list has as many numbers as the first
pub record SameLengths (froms tos classes customers watts : List ℕ) : Type 0 where
  pub of_tos : length tos ≡ length froms
  pub of_classes : length classes ≡ length froms
  pub of_customers : length customers ≡ length froms
  pub of_watts : length watts ≡ length froms

unfoldable pub same_counts : List ℕ → List ℕ → List ℕ → List ℕ → List ℕ → Bool
same_counts froms tos classes customers watts =
    eqb (length tos) (length froms)
    && eqb (length classes) (length froms)
    && eqb (length customers) (length froms)
    && eqb (length watts) (length froms)

-- at most 64 lines, each list as long as the first, and no unfit line
unfoldable pub lines_fit : List ℕ → List ℕ → List ℕ → List ℕ → List ℕ → Bool
lines_fit froms tos classes customers watts =
    leb (length froms) max_class_lines
    && same_counts froms tos classes customers watts
    && not (any_of (class_lines_of froms tos classes customers watts) unfit_line)

-- lines whose products can be summed: what is known of lines that are fit, beside their equal counts
pub record SummableLines (froms tos customers watts : List ℕ) : Type 0 where
  pub few : length froms ≤ max_class_lines
  pub holders : (k : ℕ) → k < length froms → (get_or froms k 0 < max_holders) × (get_or tos k 0 < max_holders)
  pub sizes : (k : ℕ) → k < length froms → (get_or customers k 0 ≤ max_customers) × (get_or watts k 0 ≤ max_watts)

-- the products of the first n lines from holder i to holder j, summed
unfoldable pub watts_to : List ℕ → List ℕ → List ℕ → List ℕ → ℕ → ℕ → ℕ → ℕ
watts_to froms tos customers watts n i j = sum_to n (λ k. when_true (eqb (get_or froms k 0) i && eqb (get_or tos k 0) j) (get_or customers k 0 * get_or watts k 0))

-- the m of each pair, or nothing where the lines are unfit
unfoldable pub netting_of : List ℕ → List ℕ → List ℕ → List ℕ → List ℕ → Option (List ℕ)
netting_of froms tos classes customers watts =
    cond (lines_fit froms tos classes customers watts) (Some (pair_cells (netted (class_lines_of froms tos classes customers watts)))) None

-- the bounds of every reachable ledger that a share rests on: each product of a record and an m fits 64 bits
abbrev pub ProductsFit : List ℕ → List ℕ → Type 0
ProductsFit column m = (i j : ℕ) → i < max_holders → j < max_holders → holder_at column i * pair_at m i j < 2 ^ 64

-- and those that a transfer rests on: each of n holders gives no more than it has, and all together fit 64 bits
pub record PartsFit (n : ℕ) (column parts : List ℕ) : Type 0 where
  pub few : n ≤ max_holders
  pub given : (i : ℕ) → i < n → sum_to n (λ j. pair_at parts i j) ≤ holder_at column i
  pub together : sum_to n (holder_at column) < 2 ^ 64

-- the shares of a column of eight records, pair by pair
unfoldable pub share_cells : List ℕ → List ℕ → List ℕ → List ℕ
share_cells column m load = pair_cells (shares (pair_at m) (holder_at load) (holder_at column))

-- what a holder has after the parts were transferred between the first n holders, and the column of it
abbrev pub transferred_entry : ℕ → List ℕ → List ℕ → ℕ → ℕ
transferred_entry n column parts i = cond (ltb i n) (transferred n (pair_at parts) (holder_at column) i) (holder_at column i)

unfoldable pub transferred_cells : ℕ → List ℕ → List ℕ → List ℕ
transferred_cells n column parts = column_cells (transferred_entry n column parts)
