-- The lines of the book group, read one kind after another, and the set line after them. Assumes nothing.
use Prim.Native.Nat.{ℕ, ◌+◌, ◌-◌, ◌≤◌}
use mathlib.Core.Path.{◌≡◌, refl, sym, ap, ◌∙◌}
use mathlib.Core.Bool.{Bool, true, false, cond, not, ◌&&◌}
use mathlib.Core.List.{List, map}
use native.Mathlib.Nat.{le_trans, le_of_eq, add-zero}
use lib.ListN.{length, take, drop, get_or, replicate}
use lib.Seq.{get_or-drop}
use lib.Dec.{eqb}
use borrow.Author.Tests.{eqb-true}
use Rattle.std.specs.Option.{is_some, unwrap_or}
use Rattle.lines.specs.declared.rows.LineKind.{LineKind}
use Rattle.lines.specs.declared.rows.Row.{Row}
use Rattle.std.specs.Prelude.{Some, None}
use Rattle.tariff.specs.Sizes.{max_places}
use Rattle.tariff.specs.declared.settings.Settings.{Settings}
use Rattle.tariff.specs.Settings.{present_settings, settings_of}
use Rattle.records.specs.declared.setup.SinkLine.{SinkLine}
use Rattle.records.specs.declared.setup.PathLine.{PathLine}
use Rattle.counted_lines.specs.declared.counted.CountedLines.{CountedLines}
use Rattle.counted_lines.specs.declared.book_lines.SetLine.{SetLine}
use Rattle.counted_lines.specs.declared.book_lines.BookLists.{BookLists}
use Rattle.counted_lines.specs.declared.book_lines.ReadLists.{ReadLists}
use Rattle.lines.specs.declared.rows.LineKind.TheVariants.{Holder, Sink, Path, Set, BrokenSet}
use Rattle.lines.specs.Rows.{kind_number, same_kind, unreadable_row, rows_of, field, counted, holder_rows, sink_rows, path_rows, head_count, set_count, not_broken, settings_on, set_row, set_readable, settings_of_rows, book_line_count}
use Rattle.lines.specs.Reading.{next_row}
use Rattle.counted_lines.specs.Counted.{bytes_of_lines, rows_counted, counted_of, sink_line_of, path_line_of, with_lines}
use Rattle.records.specs.Opening.{no_sink, no_path}
use Rattle.counted_lines.specs.BookLines.{first_lines, settings_read, set_line_of, book_lines_complete, book_lists_of, read_lists_of}
use Rattle.counted_lines.proofs.LineBytes.{bytes_add, bytes_within, rest_all, rest_rows}
use Rattle.counted_lines.proofs.SetLaws.{next_first}

-- what was read and kept, from the rows that were read
module _ (n : ℕ) (s : List ℕ) (rows : List Row) (these : rows_of s ≡ rows) where
  complete-is : (kind : LineKind) (x : CountedLines) → x ≡ counted_of kind n s → x.complete ≡ counted kind n (take n rows)
  unfolding counted_of rows_counted
  complete-is kind x e = ap (λ y. y.complete) e ∙ ap (λ r. counted kind n (take n r)) these

  kept-are : {T : Type 0} (of : Row → T) (array kept : List T) → kept ≡ with_lines (map of (rows_counted n s)) array → kept ≡ with_lines (map of (take n rows)) array
  unfolding rows_counted
  kept-are of array kept e = e ∙ ap (λ r. with_lines (map of (take n r)) array) these

pub consumed_is : (kind : LineKind) (n : ℕ) (s : List ℕ) (x : CountedLines) → x ≡ counted_of kind n s → x.consumed ≡ bytes_of_lines n s
unfolding counted_of
consumed_is kind n s x e = ap (λ y. y.consumed) e

-- the bytes of lines that are read after the first n
after : (s : List ℕ) (n u : ℕ) → u ≡ bytes_of_lines n s → (kind : LineKind) (m : ℕ) (x : CountedLines) → x ≡ counted_of kind m (take (length s - u) (drop u s)) → u + x.consumed ≡ bytes_of_lines (n + m) s
after s n u here kind m x e = (λ i. here i + (consumed_is kind m (take (length s - u) (drop u s)) x e ∙ ap (bytes_of_lines m) (rest_all s n u here)) i) ∙ sym (bytes_add n m s)

-- whether fractions were read, and those that hold where none were
read_some : (r : Row) → is_some (settings_read r) ≡ not_broken r
unfolding settings_read
read_some r = go (not_broken r)
  where
    go : (t : Bool) → is_some (cond t (Some (settings_on r)) None) ≡ t
    go true = refl
    go false = refl

fractions_read : (r : Row) → unwrap_or (settings_read r) present_settings ≡ settings_on r
unfolding settings_read not_broken settings_on
fractions_read r = go (same_kind r.kind BrokenSet) refl
  where
    go : (t : Bool) → same_kind r.kind BrokenSet ≡ t → unwrap_or (cond (not t) (Some (settings_on r)) None) present_settings ≡ settings_on r
    go false e = refl
    go true e = sym (ap (λ n. cond (eqb n (kind_number Set)) (settings_of r.fields) present_settings) (eqb-true (kind_number r.kind) (kind_number BrokenSet) e))

-- the three kinds together, and the set line
module _ (s : List ℕ) (head : Row) where
  abbrev n0 : ℕ
  n0 = get_or head.fields 0 0

  abbrev n2 : ℕ
  n2 = get_or head.fields 2 0

  abbrev n3 : ℕ
  n3 = get_or head.fields 3 0

  module _ (x y : CountedLines) (read_x : x ≡ counted_of Holder n0 s) (read_y : y ≡ counted_of Sink n2 (take (length s - x.consumed) (drop x.consumed s))) where
    at-sinks : x.consumed ≡ bytes_of_lines n0 s
    at-sinks = consumed_is Holder n0 s x read_x

    pub at_paths : x.consumed + y.consumed ≡ bytes_of_lines (n0 + n2) s
    at_paths = after s n0 x.consumed at-sinks Sink n2 y read_y

    module _ (z : CountedLines) (read_z : z ≡ counted_of Path n3 (take (length s - (x.consumed + y.consumed)) (drop (x.consumed + y.consumed) s))) where
      pub at_set : x.consumed + y.consumed + z.consumed ≡ bytes_of_lines (n0 + n2 + n3) s
      at_set = after s (n0 + n2) (x.consumed + y.consumed) at_paths Path n3 z read_z

      sinks-here : rows_of (take (length s - x.consumed) (drop x.consumed s)) ≡ drop n0 (rows_of s)
      sinks-here = rest_rows s n0 x.consumed at-sinks

      paths-here : rows_of (take (length s - (x.consumed + y.consumed)) (drop (x.consumed + y.consumed) s)) ≡ drop (n0 + n2) (rows_of s)
      paths-here = rest_rows s (n0 + n2) (x.consumed + y.consumed) at_paths

      module _ (w : SetLine) (read_w : w ≡ set_line_of (take (length s - (x.consumed + y.consumed + z.consumed)) (drop (x.consumed + y.consumed + z.consumed) s))) where
        left : List ℕ
        left = take (length s - (x.consumed + y.consumed + z.consumed)) (drop (x.consumed + y.consumed + z.consumed) s)

        -- the row that is read is the one after those that are counted
        row_here : (next_row left).row ≡ set_row head (rows_of s)
        unfolding set_row head_count field left
        row_here =
            next_first left
            ∙ ap (λ rows. get_or rows 0 unreadable_row) (rest_rows s (n0 + n2 + n3) (x.consumed + y.consumed + z.consumed) at_set)
            ∙ get_or-drop (n0 + n2 + n3) (rows_of s) 0 unreadable_row
            ∙ ap (λ n. get_or (rows_of s) n unreadable_row) (add-zero (n0 + n2 + n3))

        at-end : x.consumed + y.consumed + z.consumed + w.consumed ≡ bytes_of_lines (book_line_count head (rows_of s)) s
        unfolding book_line_count head_count field set_line_of left
        at-end =
            (λ i. at_set i + (ap (λ l. l.consumed) read_w ∙ (λ j. bytes_of_lines (set_count (row_here j)) (rest_all s (n0 + n2 + n3) (x.consumed + y.consumed + z.consumed) at_set j))) i)
            ∙ sym (bytes_add (n0 + n2 + n3) (set_count (set_row head (rows_of s))) s)

        pub end_within : x.consumed + y.consumed + z.consumed + w.consumed ≤ length s
        end_within = le_trans (le_of_eq at-end) (bytes_within (book_line_count head (rows_of s)) s)

        module _
            (holder_kinds : List ℕ)
            (sink_lines : List SinkLine)
            (path_lines : List PathLine)
            (kept_holders : holder_kinds ≡ with_lines (map (field 0) (rows_counted n0 s)) (replicate max_places 0))
            (kept_sinks : sink_lines ≡ with_lines (map sink_line_of (rows_counted n2 (take (length s - x.consumed) (drop x.consumed s)))) (replicate max_places no_sink))
            (kept_paths : path_lines ≡ with_lines (map path_line_of (rows_counted n3 (take (length s - (x.consumed + y.consumed)) (drop (x.consumed + y.consumed) s)))) (replicate max_places no_path))
          where
            abbrev kept : Settings → BookLists
            kept settings = record { holder_kinds = holder_kinds; sink_lines = sink_lines; path_lines = path_lines; settings = settings }

            settings-are : w.settings ≡ settings_read (set_row head (rows_of s))
            unfolding set_line_of left
            settings-are = ap (λ l. l.settings) read_w ∙ ap settings_read row_here

            pub lists_read : (settings : Settings) → settings ≡ unwrap_or w.settings present_settings → ◌≡◌ {A = ReadLists} (record { lists = kept settings; complete = x.complete && y.complete && z.complete && is_some w.settings; consumed = x.consumed + y.consumed + z.consumed + w.consumed }) (read_lists_of head s)
            unfolding read_lists_of book_lists_of book_lines_complete holder_rows sink_rows path_rows first_lines field set_readable settings_of_rows
            lists_read settings made =
                let row = set_row head (rows_of s) in
                λ i.
                record {
                  lists =
                      record {
                        holder_kinds = kept-are n0 s (rows_of s) refl (field 0) (replicate max_places 0) holder_kinds kept_holders i;
                        sink_lines = kept-are n2 _ _ sinks-here sink_line_of (replicate max_places no_sink) sink_lines kept_sinks i;
                        path_lines = kept-are n3 _ _ paths-here path_line_of (replicate max_places no_path) path_lines kept_paths i;
                        settings = (made ∙ ap (λ y. unwrap_or y present_settings) settings-are ∙ fractions_read row) i;
                      };
                  complete =
                      complete-is n0 s (rows_of s) refl Holder x read_x i && complete-is n2 _ _ sinks-here Sink y read_y i && complete-is n3 _ _ paths-here Path z read_z i && (ap is_some settings-are ∙ read_some row) i;
                  consumed = at-end i;
                }
