-- Counted lines, read one after another. Assumes nothing.
use Prim.Native.Nat.{ℕ, zero, suc, ◌+◌, ◌-◌, ◌≤◌, ◌<◌, zero-le}
use mathlib.Core.Path.{◌≡◌, refl, sym, ap, ◌∙◌, subst}
use native.Mathlib.Nat.{le_trans, le_of_eq}
use mathlib.Core.Bool.{Bool, true, false, ◌&&◌}
use mathlib.Core.List.{List, [], ◌∷◌, ◌++◌, map, map-append}
use native.Mathlib.Numerals.{add-one}
use native.Mathlib.Omega.{arith}
use lib.ListN.{length, take, drop, set, length-map, length-drop, drop_of_length-le}
use lib.Seq.{drop-drop, length-take-le, take_all}
use borrow.Author.Tests.{eq-eqb, ne_eqb}
use Rattle.tariff.proofs.Tests.{and_left_false}
use Rattle.lines.specs.declared.rows.LineKind.{LineKind}
use Rattle.lines.specs.declared.rows.Row.{Row}
use Rattle.counted_lines.specs.declared.counted.CountedLines.{CountedLines}
use Rattle.lines.specs.declared.lines.NextRow.{NextRow}
use Rattle.lines.specs.Text.{lines_of}
use Rattle.lines.specs.Rows.{same_kind, rows_of, all_of_kind, counted}
use Rattle.lines.specs.Reading.{first_bytes, next_row}
use Rattle.counted_lines.specs.Counted.{bytes_of_lines, rows_counted, counted_of, with_lines}
use Rattle.counted_lines.proofs.RowSteps.{first_row_lem, consumed_within}
use Rattle.counted_lines.proofs.KeptLines.{one_kept}
use Rattle.counted_lines.proofs.RowsMore.{take_more, drop_more, in_list, kinds_more}

-- one line more takes the bytes of the line that comes next
bytes_more : (k : ℕ) (s : List ℕ) → bytes_of_lines (suc k) s ≡ bytes_of_lines k s + (next_row (drop (bytes_of_lines k s) s)).consumed
unfolding bytes_of_lines
bytes_more zero s = omega arith
bytes_more (suc k) s =
    let u = (next_row s).consumed in
    let later = bytes_more k (drop u s) in
    let same = ap (λ t. (next_row t).consumed) (drop-drop (bytes_of_lines k (drop u s)) u s) in
    omega arith

-- past the last byte there is nothing more
nothing_left : (k : ℕ) → bytes_of_lines k [] ≡ 0
unfolding bytes_of_lines next_row lines_of first_bytes
nothing_left zero = refl
nothing_left (suc k) = let later = nothing_left k in omega arith

bytes_all : (m n : ℕ) (s : List ℕ) → length s ≤ bytes_of_lines m s → m ≤ n → bytes_of_lines m s ≡ bytes_of_lines n s
unfolding bytes_of_lines
bytes_all zero n [] a b = sym (nothing_left n)
bytes_all zero n (x ∷ s) a b = absurd (let z : ⊥ = omega arith in z)
bytes_all (suc m) zero s a b = absurd (let z : ⊥ = omega arith in z)
bytes_all (suc m) (suc n) s a b =
    let u = (next_row s).consumed in
    let left = length-drop u s in
    ap (λ t. u + t) (bytes_all m n (drop u s) (omega arith) (omega arith))

-- what is known when k lines have been read
pub record SoFar (s : List ℕ) (kind : LineKind) (count k consumed : ℕ) (complete : Bool) : Type 0 where
  pub up_to : k ≤ count
  pub left : rows_of (drop consumed s) ≡ drop k (rows_of s)
  pub in_rows : k ≤ length (rows_of s)
  pub bytes : consumed ≡ bytes_of_lines k s
  pub in_bytes : consumed ≤ length s
  pub kinds : complete ≡ all_of_kind kind (take k (rows_of s))

pub none_read : (s : List ℕ) (kind : LineKind) (count : ℕ) → SoFar s kind count 0 0 true
unfolding bytes_of_lines all_of_kind
none_read s kind count = record { up_to = zero-le; left = refl; in_rows = zero-le; bytes = refl; in_bytes = zero-le; kinds = refl }

module _ (s : List ℕ) (kind : LineKind) (count k consumed : ℕ) (complete : Bool) (f : SoFar s kind count k consumed complete) where
  abbrev rest : List ℕ
  rest = drop consumed s

  abbrev next : Row
  next = (next_row rest).row

  module _ (some : consumed < length s) where
    left-some : 1 ≤ length rest
    left-some = let len = length-drop consumed s in omega arith

    -- the next row is the k-th
    here : drop k (rows_of s) ≡ (next ∷ rows_of (drop (next_row rest).consumed rest))
    here = sym f.left ∙ first_row_lem rest left-some

    row_below : k < length (rows_of s)
    row_below = in_list k (rows_of s) next (rows_of (drop (next_row rest).consumed rest)) here

    next-within : consumed + (next_row rest).consumed ≤ length s
    next-within = let u = consumed_within rest in let len = length-drop consumed s in omega arith

    one_more : take (suc k) (rows_of s) ≡ take k (rows_of s) ++ (next ∷ [])
    one_more = take_more k (rows_of s) next (rows_of (drop (next_row rest).consumed rest)) here

    read_more : k < count → SoFar s kind count (k + 1) (consumed + (next_row rest).consumed) (complete && same_kind next.kind kind)
    read_more l =
        record {
          up_to = omega arith;
          left = ap rows_of (sym (drop-drop (next_row rest).consumed consumed s)) ∙ sym (drop_more k (rows_of s) next (rows_of (drop (next_row rest).consumed rest)) here) ∙ ap (λ n. drop n (rows_of s)) (sym (add-one k));
          in_rows = let below = row_below in omega arith;
          bytes = (λ i. f.bytes i + (next_row (drop (f.bytes i) s)).consumed) ∙ sym (bytes_more k s) ∙ ap (λ n. bytes_of_lines n s) (sym (add-one k));
          in_bytes = next-within;
          kinds = (λ i. f.kinds i && same_kind next.kind kind) ∙ sym (kinds_more kind (take k (rows_of s)) next) ∙ ap (all_of_kind kind) (sym one_more) ∙ ap (λ n. all_of_kind kind (take n (rows_of s))) (sym (add-one k));
        }

    -- the same of a row that was read there, from the part of the bytes that begins there
    module _ (x : NextRow) (read : x ≡ next_row (take (length s - consumed) rest)) where
      e : x ≡ next_row rest
      e = read ∙ ap next_row (take_all (length s - consumed) rest (let len = length-drop consumed s in omega arith))

      pub turn : k < count → SoFar s kind count (k + 1) (consumed + x.consumed) (complete && same_kind x.row.kind kind)
      turn l = subst (λ y. SoFar s kind count (k + 1) (consumed + y.consumed) (complete && same_kind y.row.kind kind)) (sym e) (read_more l)

      -- the rows with one more
      pub turn_rows : take (k + 1) (rows_of s) ≡ take k (rows_of s) ++ (x.row ∷ [])
      turn_rows = ap (λ n. take n (rows_of s)) (add-one k) ∙ one_more ∙ ap (λ y. take k (rows_of s) ++ (y.row ∷ [])) (sym e)

      -- its line is kept after those before it
      pub turn_kept : {T : Type 0} (of : Row → T) (array old new : List T) (line : T) → line ≡ of x.row → old ≡ with_lines (map of (take k (rows_of s))) array → new ≡ set old k line → new ≡ with_lines (map of (take (k + 1) (rows_of s))) array
      turn_kept of array old new line is kept stored =
          let many = length-map (take k (rows_of s)) of ∙ length-take-le k (rows_of s) f.in_rows in
          stored
          ∙ (λ i. set (kept i) (sym many i) (is i))
          ∙ one_kept (map of (take k (rows_of s))) (of x.row) array
          ∙ ap (λ ls. with_lines ls array) (sym (ap (map of) turn_rows ∙ map-append of (take k (rows_of s)) (x.row ∷ [])))

      pub turn_within : consumed + x.consumed ≤ length s
      turn_within = le_trans (le_of_eq (ap (λ y. consumed + y.consumed) e)) next-within

  -- where the bytes run out the lines that are left are all there are
  module _ (none : length s ≤ consumed) (short : k < count) where
    all-rows : length (rows_of s) ≤ k
    unfolding rows_of lines_of
    all-rows =
        let gone = ap (λ t. length (rows_of t)) (drop_of_length-le s none) in
        let same = ap length f.left in
        let len = length-drop k (rows_of s) in
        omega arith

    pub rows_cut : take k (rows_of s) ≡ rows_counted count s
    unfolding rows_counted
    rows_cut = take_all k (rows_of s) all-rows ∙ sym (take_all count (rows_of s) (let few = all-rows in omega arith))

    pub cut_short : ◌≡◌ {A = CountedLines} (record { complete = false; consumed = consumed }) (counted_of kind count s)
    unfolding counted_of counted rows_counted
    cut_short =
        let few = all-rows in
        let all = ap length (take_all count (rows_of s) (omega arith)) in
        λ i. record { complete = sym (and_left_false (all_of_kind kind (take count (rows_of s))) (ne_eqb (length (take count (rows_of s))) count (λ e. omega (arith, e)))) i; consumed = (f.bytes ∙ bytes_all k count s (let same = f.bytes in omega arith) (omega arith)) i }

  -- where all are read
  module _ (done : count ≤ k) where
    at_count : k ≡ count
    at_count = let up = f.up_to in omega arith

    pub all_read : ◌≡◌ {A = CountedLines} (record { complete = complete; consumed = consumed }) (counted_of kind count s)
    unfolding counted_of counted rows_counted
    all_read =
        let same = at_count in
        let many = length-take-le count (rows_of s) (let few = f.in_rows in omega arith) in
        λ i. record { complete = (f.kinds ∙ ap (λ n. all_of_kind kind (take n (rows_of s))) same ∙ sym (ap (λ t. t && all_of_kind kind (take count (rows_of s))) (eq-eqb (length (take count (rows_of s))) count many))) i; consumed = (f.bytes ∙ ap (λ n. bytes_of_lines n s) same) i }

    pub rows_read : take k (rows_of s) ≡ rows_counted count s
    unfolding rows_counted
    rows_read = ap (λ n. take n (rows_of s)) at_count
