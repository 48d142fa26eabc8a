-- Openings: what is kept of a legal one is the whole of it. Assumes nothing.
use Prim.Native.Nat.{ℕ, zero, suc, ◌≤◌, ◌<◌}
use mathlib.Core.Path.{◌≡◌, refl, sym, ap, ◌∙◌}
use mathlib.Core.Bool.{true}
use mathlib.Core.List.{List, [], ◌∷◌, map}
use native.Mathlib.Omega.{arith}
use lib.ListN.{length, get_or}
use lib.Seq.{ext_get_or}
use Rattle.std.proofs.lemmas.List.{length-map, map-id, get_or_past}
use borrow.Author.Tests.{eqb-true, leb-true}
use Rattle.tariff.specs.Sum.{tabulate, all_below}
use Rattle.tariff.specs.Settings.{fraction_legal, settings_legal, fraction_at, settings_of, present_settings}
use Rattle.tariff.proofs.Tests.{and_both}
use Rattle.tariff.proofs.Lists.{length_tabulate, at_tabulate}
use Rattle.ledger.proofs.LegalFacts.{legal_facts}
use Rattle.ledger.specs.Opening.{Opening, sink_kind, base, path_source, path_sink, path_base, counts_fit, lists_fit, legal}
use Rattle.records.specs.declared.setup.KeptOpening.{KeptOpening}
use Rattle.records.specs.declared.setup.SinkLine.{SinkLine}
use Rattle.records.specs.declared.setup.PathLine.{PathLine}
use Rattle.records.specs.Opening.{opening_in, with_room, no_sink, no_path, sink_line, path_line, path_bases, kept_opening, KeepsBases, empty_opening}

-- the lists are as long as counted
lists_long : (o : Opening) → lists_fit o ≡ true → (length o.holder_kinds ≡ o.holders) × (length o.sink_kinds ≡ o.sinks) × (length o.sink_parents ≡ o.sinks) × (length o.path_sources ≡ o.paths) × (length o.path_sinks ≡ o.paths)
unfolding lists_fit
lists_long o e =
    let four = and_both _ _ e in
    let three = and_both _ _ four.0 in
    let two = and_both _ _ three.0 in
    let one = and_both _ _ two.0 in
    (eqb-true _ _ one.0, eqb-true _ _ one.1, eqb-true _ _ two.1, eqb-true _ _ three.1, eqb-true _ _ four.1)

-- the counts are small
pub counts_small : (o : Opening) → counts_fit o ≡ true → (o.holders ≤ 8) × (o.sinks ≤ 16) × (o.paths ≤ 16)
unfolding counts_fit
counts_small o e =
    let three = and_both _ _ e in
    let two = and_both _ _ three.0 in
    let one = and_both _ _ two.0 in
    (leb-true _ _ one.0, leb-true _ _ two.1, leb-true _ _ three.1)

-- a list with room: how long it is, and what stands in it
module _ {A : Type 0} (none : A) (room : ℕ) (xs : List A) where
  pub room_long : length (with_room none room xs) ≡ room
  unfolding with_room
  room_long = length_tabulate room _

  pub room_at : (i : ℕ) → i < room → get_or (with_room none room xs) i none ≡ get_or xs i none
  unfolding with_room
  room_at i l = at_tabulate room _ none i l

  pub room_past : (i : ℕ) → room ≤ i → get_or (with_room none room xs) i none ≡ none
  room_past i l = get_or_past (with_room none room xs) i none (let long = room_long in omega arith)

-- a number of a line, read from the column of that number
pub in_column : {A : Type 0} (number : A → ℕ) (lines : List A) (none : A) (i : ℕ) → get_or (map number lines) i (number none) ≡ number (get_or lines i none)
in_column number [] none i = refl
in_column number (line ∷ lines) none zero = refl
in_column number (line ∷ lines) none (suc i) = in_column number lines none i

-- a column of the first n lines, of which room for more was made, is the list that the lines were made from
module _ {A : Type 0} (none : A) (number : A → ℕ) (n room : ℕ) (made : List A) (xs : List ℕ) (len : length xs ≡ n) (fits : n ≤ room) (shows : (k : ℕ) → k < room → number (get_or made k none) ≡ get_or xs k (number none)) where
  abbrev lines : List A
  lines = with_room none n made

  lines-long : length (map number lines) ≡ n
  lines-long = length-map lines number ∙ room_long none n made

  pub column_back : map number lines ≡ xs
  column_back =
      ext_get_or (number none) (map number lines) xs (lines-long ∙ sym len)
      (λ i l.
      let below : i < n = let long = lines-long in omega arith in
      in_column number lines none i ∙ ap number (room_at none n made i below) ∙ shows i (omega arith))

-- what stands on a sink's and a path's line as code reads it
module _ (o : KeptOpening) where
  module _ (s : ℕ) (none : SinkLine) (no_kind : none.kind ≡ 0) (no_parent : none.parent ≡ 0) where
    nothing : none ≡ no_sink
    nothing i = record { kind = no_kind i; parent = no_parent i }

    pub kind_read : (get_or (with_room none o.sinks o.sink_lines) s none).kind ≡ sink_kind (opening_in o) s
    unfolding opening_in sink_kind
    kind_read = ap (λ x. (get_or (with_room x o.sinks o.sink_lines) s x).kind) nothing ∙ sym (in_column {A = SinkLine} (λ x. x.kind) (with_room no_sink o.sinks o.sink_lines) no_sink s)

    pub parent_read : (get_or (with_room none o.sinks o.sink_lines) s none).parent ≡ base (opening_in o) s
    unfolding opening_in base
    parent_read = ap (λ x. (get_or (with_room x o.sinks o.sink_lines) s x).parent) nothing ∙ sym (in_column {A = SinkLine} (λ x. x.parent) (with_room no_sink o.sinks o.sink_lines) no_sink s)

  module _ (p : ℕ) (none : PathLine) (no_source : none.source ≡ 0) (no_end : none.sink ≡ 0) where
    no_line : none ≡ no_path
    no_line i = record { source = no_source i; sink = no_end i }

    pub source_read : (get_or (with_room none o.paths o.path_lines) p none).source ≡ path_source (opening_in o) p
    unfolding opening_in path_source
    source_read = ap (λ x. (get_or (with_room x o.paths o.path_lines) p x).source) no_line ∙ sym (in_column {A = PathLine} (λ x. x.source) (with_room no_path o.paths o.path_lines) no_path p)

    pub end_read : (get_or (with_room none o.paths o.path_lines) p none).sink ≡ path_sink (opening_in o) p
    unfolding opening_in path_sink
    end_read = ap (λ x. (get_or (with_room x o.paths o.path_lines) p x).sink) no_line ∙ sym (in_column {A = PathLine} (λ x. x.sink) (with_room no_path o.paths o.path_lines) no_path p)

-- what is kept of an opening whose counts and lists fit is the whole of it, whatever stands for the bases
pub lists_back : (o : Opening) (kept : KeptOpening) → record kept { bases = path_bases o } ≡ kept_opening o → counts_fit o ≡ true → lists_fit o ≡ true → opening_in kept ≡ o
unfolding opening_in kept_opening
lists_back o kept keeps counts lists = ap opening_in keeps ∙ kept_back
  where
    kept_back : opening_in (kept_opening o) ≡ o
    kept_back =
        let n = counts_small o counts in
        let l = lists_long o lists in
        λ i.
        record {
          holders = o.holders;
          sources = o.sources;
          sinks = o.sinks;
          paths = o.paths;
          holder_kinds = (sym (map-id _) ∙ column_back 0 (λ k. k) o.holders 8 (with_room 0 8 o.holder_kinds) o.holder_kinds l.0 n.0 (room_at 0 8 o.holder_kinds)) i;
          sink_kinds = column_back {A = SinkLine} no_sink (λ line. line.kind) o.sinks 16 (tabulate 16 (sink_line o)) o.sink_kinds l.1 n.1 (λ k b. ap (λ line. line.kind) (at_tabulate 16 (sink_line o) no_sink k b)) i;
          sink_parents = column_back {A = SinkLine} no_sink (λ line. line.parent) o.sinks 16 (tabulate 16 (sink_line o)) o.sink_parents l.2 n.1 (λ k b. ap (λ line. line.parent) (at_tabulate 16 (sink_line o) no_sink k b)) i;
          path_sources = column_back {A = PathLine} no_path (λ line. line.source) o.paths 16 (tabulate 16 (path_line o)) o.path_sources l.3 n.2 (λ k b. ap (λ line. line.source) (at_tabulate 16 (path_line o) no_path k b)) i;
          path_sinks = column_back {A = PathLine} no_path (λ line. line.sink) o.paths 16 (tabulate 16 (path_line o)) o.path_sinks l.4 n.2 (λ k b. ap (λ line. line.sink) (at_tabulate 16 (path_line o) no_path k b)) i;
          settings = o.settings;
        }

pub opening_back : (o : Opening) → legal o ≡ true → opening_in (kept_opening o) ≡ o
unfolding kept_opening
opening_back o e = let fits = legal_facts o e in lists_back o (kept_opening o) refl fits.counts_fit fits.lists_fit

-- and it keeps the bases of its paths
pub bases_kept : (o : Opening) → legal o ≡ true → KeepsBases (kept_opening o)
unfolding kept_opening
bases_kept o e = ap path_bases (sym (opening_back o e))

-- the base that is kept for a path
pub base_at : (o : KeptOpening) → KeepsBases o → (p : ℕ) → p < 16 → get_or o.bases p 0 ≡ path_base (opening_in o) p
unfolding path_bases
base_at o keeps p l = ap (λ xs. get_or xs p 0) keeps ∙ at_tabulate 16 (path_base (opening_in o)) 0 p l

-- an opening with nothing in it breaks no rule
pub empty_legal : legal empty_opening ≡ true
unfolding legal counts_fit lists_fit all_below empty_opening settings_legal fraction_legal present_settings settings_of fraction_at
empty_legal = refl
