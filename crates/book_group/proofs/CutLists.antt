-- Lists of a book group that are cut at 16: a count above its size is refused whatever the lists are, and all others are whole. Assumes nothing.
use Prim.Native.Nat.{ℕ, min, ◌≤◌}
use mathlib.Core.Path.{◌≡◌, refl, sym, ap, ◌∙◌}
use mathlib.Core.Bool.{true, false}
use mathlib.Core.List.{List, map}
use mathlib.Core.Logic.{◌⊎◌, inl, inr}
use native.Mathlib.Omega.{arith}
use lib.ListN.{length, take, get_or, replicate, length-map}
use lib.Seq.{take_all}
use lib.Dec.{leb}
use borrow.Author.Tests.{leb-true, leb-false}
use Rattle.tariff.specs.Sizes.{max_places}
use Rattle.tariff.proofs.Tests.{decided}
use Rattle.std.specs.Prelude.{Err}
use Rattle.std.proofs.lemmas.List.{length-replicate}
use Rattle.std.proofs.lemmas.Simd.{map-map}
use Rattle.ledger.specs.Opening.{Opening, counts_fit}
use Rattle.records.specs.Opening.{no_sink, no_path, opening_from}
use Rattle.records.specs.declared.refusal.Refusal.TheVariants.{BreaksRules}
use Rattle.records.proofs.OpeningLaws.{counts_small}
use Rattle.opening.specs.Opened.{opened}
use Rattle.opening.proofs.KeptOpening.{unfit_counts}
use Rattle.lines.specs.declared.rows.Row.{Row}
use Rattle.counted_lines.specs.declared.book_lines.BookLists.{BookLists}
use Rattle.lines.specs.Rows.{field, holder_rows, sink_rows, path_rows, settings_of_rows}
use Rattle.counted_lines.specs.BookLines.{first_lines, book_lists_of}
use Rattle.counted_lines.specs.Counted.{sink_line_of, path_line_of, with_lines}
use Rattle.counted_lines.proofs.KeptLines.{all_kept}
use Rattle.groups.specs.Groups.{opening_of_rows}
use Rattle.book_group.specs.BookGroup.{opening_kept}

-- a count above its size is refused
refused_for_counts : (o : Opening) → counts_fit o ≡ false → opened o ≡ Err BreaksRules
unfolding opened
refused_for_counts o e = rw (unfit_counts o e)

-- two openings of the same counts, whose lists are the same where the counts fit, open the same
same_opened : (o p : Opening) → counts_fit o ≡ counts_fit p → (counts_fit p ≡ true → o ≡ p) → opened o ≡ opened p
same_opened o p counts lists = go (decided (counts_fit p))
  where
    go : (counts_fit p ≡ true) ⊎ (counts_fit p ≡ false) → opened o ≡ opened p
    go (inl e) = ap opened (lists e)
    go (inr e) = refused_for_counts o (counts ∙ e) ∙ sym (refused_for_counts p e)

-- of at most 16 lines the first 16 are all
lines_are_all : {T : Type 0} (of : Row → T) (blank : T) (n : ℕ) (rows : List Row) → length rows ≡ n → n ≤ max_places → take n (first_lines blank (map of rows)) ≡ map of rows
unfolding first_lines
lines_are_all of blank n rows long few =
    let many = length-map rows of ∙ long in
    let room = length-replicate max_places blank in
    ap (λ k. take k (with_lines (map of rows) (replicate max_places blank))) (sym many) ∙ all_kept (map of rows) (replicate max_places blank) (omega arith)

-- a number of each line is a field of each row
numbers_are_all : {T : Type 0} (of : Row → T) (number : T → ℕ) (blank : T) (n : ℕ) (rows : List Row) → length rows ≡ n → n ≤ max_places → map number (take n (first_lines blank (map of rows))) ≡ map (λ r. number (of r)) rows
numbers_are_all of number blank n rows long few = ap (map number) (lines_are_all of blank n rows long few) ∙ map-map number of rows

module _ (n r : ℕ) (lent : r ≡ min n max_places) {T : Type 0} (xs : List T) (full : length xs ≡ max_places) where
  lent_cut : take r xs ≡ take n xs
  lent_cut = go (decided (leb n max_places))
    where
      go : (leb n max_places ≡ true) ⊎ (leb n max_places ≡ false) → take r xs ≡ take n xs
      go (inl t) = let few = leb-true n max_places t in ap (λ k. take k xs) (let same : r ≡ n = omega arith in same)
      go (inr t) = let many = leb-false n max_places t in take_all r xs (omega arith) ∙ sym (take_all n xs (omega arith))

-- so what is opened is the opening of the lists that were kept
module _ (head : Row) (lists : BookLists) (holders : length lists.holder_kinds ≡ max_places) (sinks : length lists.sink_lines ≡ max_places) (paths : length lists.path_lines ≡ max_places) where
  abbrev count : ℕ → ℕ
  count k = get_or head.fields k 0

  pub lent_opening : (h s p : ℕ) → h ≡ min (count 0) max_places → s ≡ min (count 2) max_places → p ≡ min (count 3) max_places → opening_from (count 0) (count 1) (count 2) (count 3) (take h lists.holder_kinds) (map (λ line. line.kind) (take s lists.sink_lines)) (map (λ line. line.parent) (take s lists.sink_lines)) (map (λ line. line.source) (take p lists.path_lines)) (map (λ line. line.sink) (take p lists.path_lines)) lists.settings ≡ opening_kept head lists
  unfolding opening_kept field
  lent_opening h s p eh es ep =
      λ i.
      opening_from (count 0) (count 1) (count 2) (count 3)
      (lent_cut (count 0) h eh lists.holder_kinds holders i)
      (map (λ line. line.kind) (lent_cut (count 2) s es lists.sink_lines sinks i))
      (map (λ line. line.parent) (lent_cut (count 2) s es lists.sink_lines sinks i))
      (map (λ line. line.source) (lent_cut (count 3) p ep lists.path_lines paths i))
      (map (λ line. line.sink) (lent_cut (count 3) p ep lists.path_lines paths i))
      lists.settings

-- the lists that are kept of a head's lines
module _ (head : Row) (rows : List Row) (lists : BookLists) (e : lists ≡ book_lists_of head rows) where
  module _ (there : (length (holder_rows head rows) ≡ field 0 head) × (length (sink_rows head rows) ≡ field 2 head) × (length (path_rows head rows) ≡ field 3 head)) where
    abbrev read : Opening
    read = opening_of_rows head rows

    whole-lists : counts_fit read ≡ true → opening_kept head lists ≡ read
    unfolding opening_kept opening_from opening_of_rows book_lists_of sink_line_of path_line_of
    whole-lists fit =
        let small = counts_small read fit in
        let holders : read.holders ≤ max_places = omega (arith, small.0) in
        ap (opening_kept head) e
        ∙ λ i.
        record {
          holders = field 0 head;
          sources = field 1 head;
          sinks = field 2 head;
          paths = field 3 head;
          holder_kinds = lines_are_all (field 0) 0 (field 0 head) (holder_rows head rows) there.0 holders i;
          sink_kinds = numbers_are_all sink_line_of (λ line. line.kind) no_sink (field 2 head) (sink_rows head rows) there.1 small.1 i;
          sink_parents = numbers_are_all sink_line_of (λ line. line.parent) no_sink (field 2 head) (sink_rows head rows) there.1 small.1 i;
          path_sources = numbers_are_all path_line_of (λ line. line.source) no_path (field 3 head) (path_rows head rows) there.2 small.2 i;
          path_sinks = numbers_are_all path_line_of (λ line. line.sink) no_path (field 3 head) (path_rows head rows) there.2 small.2 i;
          settings = settings_of_rows head rows;
        }

    same-counts : counts_fit (opening_kept head lists) ≡ counts_fit read
    unfolding counts_fit opening_kept opening_from opening_of_rows
    same-counts = refl

    pub kept_opened : opened (opening_kept head lists) ≡ opened read
    kept_opened = same_opened (opening_kept head lists) read same-counts whole-lists
