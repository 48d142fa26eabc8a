-- Whether an opening that is kept is legal, and what opening a book keeps and answers. Assumes nothing.
use Prim.Native.Nat.{ℕ}
use mathlib.Core.Path.{◌≡◌, refl, sym, ap, ◌∙◌}
use mathlib.Core.Bool.{Bool, true, false, cond, ◌&&◌, and-true}
use mathlib.Core.List.{List}
use lib.ListN.{get_or}
use borrow.Author.Tests.{eq-eqb}
use Rattle.std.proofs.lemmas.List.{length-map}
use Rattle.std.specs.Prelude.{Result, Ok, Err}
use Rattle.tariff.specs.Sum.{tabulate, all_below}
use Rattle.tariff.specs.Settings.{settings_legal}
use Rattle.tariff.proofs.Tests.{and_join, and_right_false}
use Rattle.ledger.specs.Opening.{Opening, counts_fit, lists_fit, holder_legal, sink_legal, path_legal, path_new, legal}
use Rattle.ledger.proofs.LegalFacts.{legal_facts}
use Rattle.records.specs.declared.refusal.Refusal.{Refusal}
use Rattle.records.specs.declared.refusal.Refusal.TheVariants.{BreaksRules}
use Rattle.records.specs.declared.setup.KeptOpening.{KeptOpening}
use Rattle.records.specs.declared.setup.SinkLine.{SinkLine}
use Rattle.records.specs.declared.setup.PathLine.{PathLine}
use Rattle.records.specs.Opening.{opening_in, with_room, no_sink, no_path, sink_line, path_line, path_bases, kept_opening, opening_from}
use Rattle.records.proofs.OpeningLaws.{in_column, room_long, lists_back}
use Rattle.opening.specs.declared.book_setup.BookSetup.{BookSetup}
use Rattle.opening.specs.Opened.{opening_asked, opened}

-- an opening whose counts or lists do not fit is not legal
pub unfit_counts : (o : Opening) → counts_fit o ≡ false → legal o ≡ false
unfolding legal
unfit_counts o e = rw e

unfit_lists : (o : Opening) → lists_fit o ≡ false → legal o ≡ false
unfolding legal
unfit_lists o e = rw (and_right_false (counts_fit o) e)

-- there are as many entries in each list of what is kept as are counted
kept_lists : (o : KeptOpening) → lists_fit (opening_in o) ≡ true
unfolding lists_fit opening_in
kept_lists o =
    and_join
    (and_join
    (and_join
    (and_join
    (eq-eqb _ _ (room_long 0 o.holders o.holder_kinds))
    (eq-eqb _ _ (length-map _ _ ∙ room_long no_sink o.sinks o.sink_lines)))
    (eq-eqb _ _ (length-map _ _ ∙ room_long no_sink o.sinks o.sink_lines)))
    (eq-eqb _ _ (length-map _ _ ∙ room_long no_path o.paths o.path_lines)))
    (eq-eqb _ _ (length-map _ _ ∙ room_long no_path o.paths o.path_lines))

-- what is kept is legal by its counts, its holders, sinks and paths, and its settings
pub legal_by_lines : (o : KeptOpening) → legal (opening_in o) ≡ (counts_fit (opening_in o) && all_below (opening_in o).holders (holder_legal (opening_in o)) && all_below (opening_in o).sinks (sink_legal (opening_in o)) && all_below (opening_in o).paths (path_legal (opening_in o)) && all_below (opening_in o).paths (path_new (opening_in o)) && settings_legal o.settings)
unfolding legal opening_in
legal_by_lines o = rw (kept_lists o, and-true (counts_fit (opening_in o)))

-- what is kept of an opening, by the lines that it keeps
pub kept_by_lines : (o : Opening) (kinds : List ℕ) (sinks : List SinkLine) (paths : List PathLine) → kinds ≡ with_room 0 8 o.holder_kinds → sinks ≡ tabulate 16 (sink_line o) → paths ≡ tabulate 16 (path_line o) → record { holders = o.holders; sources = o.sources; sinks = o.sinks; paths = o.paths; holder_kinds = kinds; sink_lines = sinks; path_lines = paths; settings = o.settings; bases = path_bases o } ≡ kept_opening o
unfolding kept_opening
kept_by_lines o kinds sinks paths of_kinds of_sinks of_paths = λ i. record (kept_opening o) { holder_kinds = of_kinds i; sink_lines = of_sinks i; path_lines = of_paths i }

-- the lines of a setup, with room made for as many as a book can have, are those of its opening
pub lines_kept : (s : BookSetup) (kinds : List ℕ) (sinks : List SinkLine) (paths : List PathLine) → kinds ≡ with_room 0 8 s.holder_kinds.now → sinks ≡ tabulate 16 (λ k. get_or s.sink_lines.now k no_sink) → paths ≡ tabulate 16 (λ k. get_or s.path_lines.now k no_path) → record { holders = s.holders; sources = s.sources; sinks = s.sinks; paths = s.paths; holder_kinds = kinds; sink_lines = sinks; path_lines = paths; settings = s.settings; bases = path_bases (opening_asked s) } ≡ kept_opening (opening_asked s)
unfolding opening_from
lines_kept s kinds sinks paths of_kinds of_sinks of_paths = kept_by_lines (opening_asked s) kinds sinks paths of_kinds (of_sinks ∙ ap (tabulate 16) sink_columns) (of_paths ∙ ap (tabulate 16) path_columns)
  where
    sink_columns : (λ k. get_or s.sink_lines.now k no_sink) ≡ sink_line (opening_asked s)
    sink_columns i k = record { kind = sym (in_column {A = SinkLine} (λ line. line.kind) s.sink_lines.now no_sink k) i; parent = sym (in_column {A = SinkLine} (λ line. line.parent) s.sink_lines.now no_sink k) i }

    path_columns : (λ k. get_or s.path_lines.now k no_path) ≡ path_line (opening_asked s)
    path_columns i k = record { source = sym (in_column {A = PathLine} (λ line. line.source) s.path_lines.now no_path k) i; sink = sym (in_column {A = PathLine} (λ line. line.sink) s.path_lines.now no_path k) i }

-- the counts are kept as they are
counts_same : (o : Opening) → counts_fit (opening_in (kept_opening o)) ≡ counts_fit o
unfolding counts_fit opening_in kept_opening
counts_same o = refl

module _ (o : Opening) (kept : KeptOpening) (keeps : record kept { bases = path_bases o } ≡ kept_opening o) where
  same-counts : counts_fit (opening_in kept) ≡ counts_fit o
  unfolding opening_in
  same-counts = ap (λ k. counts_fit (opening_in k)) keeps ∙ counts_same o

  -- the lists fit and what is kept is legal just where the opening is
  legal-kept : (lists_fit o && legal (opening_in kept)) ≡ legal o
  legal-kept = go (lists_fit o) (counts_fit o) refl refl
    where
      go : (l n : Bool) → lists_fit o ≡ l → counts_fit o ≡ n → (l && legal (opening_in kept)) ≡ legal o
      go false n p q = sym (unfit_lists o p)
      go true true p q = ap legal (lists_back o kept keeps q p)
      go true false p q = unfit_counts (opening_in kept) (same-counts ∙ q) ∙ sym (unfit_counts o q)

  module _ {lists lines : Bool} (of_lists : lists ≡ lists_fit o) (of_lines : lines ≡ legal (opening_in kept)) where
    tested : {t : Bool} → (lists && lines) ≡ t → legal o ≡ t
    tested e = sym ((λ i. of_lists i && of_lines i) ∙ legal-kept) ∙ e

    -- what was kept is the whole opening, with the bases of its own paths
    pub opened_done : (bases : List ℕ) → (lists && lines) ≡ true → bases ≡ path_bases (opening_in kept) → Ok (record kept { bases = bases }) ≡ opened o
    unfolding opened
    opened_done bases e found =
        let t = tested e in
        let fits = legal_facts o t in
        ap (λ b. Ok (record kept { bases = b })) (found ∙ ap path_bases (lists_back o kept keeps fits.counts_fit fits.lists_fit)) ∙ ap Ok keeps ∙ sym (ap (λ b. cond b (Ok (kept_opening o)) (Err BreaksRules)) t)

    pub opened_refused : (lists && lines) ≡ false → Err BreaksRules ≡ opened o
    unfolding opened
    opened_refused e = sym (ap (λ b. cond b (Ok (kept_opening o)) (Err BreaksRules)) (tested e))

-- what is said of an opening that is kept, and of one that is refused
pub opened_kept : (o : Opening) (kept : KeptOpening) → Ok kept ≡ opened o → (legal o ≡ true) × (kept ≡ kept_opening o)
unfolding opened
opened_kept o kept e = go (legal o) e
  where
    of_ok : Result KeptOpening Refusal → KeptOpening
    of_ok (Ok a) = a
    of_ok (Err r) = kept

    go : (t : Bool) → Ok kept ≡ cond t (Ok (kept_opening o)) (Err BreaksRules) → (t ≡ true) × (kept ≡ kept_opening o)
    go true w = (refl, ap of_ok w)
    go false w = cc

pub opened_not : (o : Opening) (refusal : Refusal) → Err refusal ≡ opened o → (legal o ≡ false) × (refusal ≡ BreaksRules)
unfolding opened
opened_not o refusal e = go (legal o) e
  where
    of_err : Result KeptOpening Refusal → Refusal
    of_err (Ok a) = refusal
    of_err (Err r) = r

    go : (t : Bool) → Err refusal ≡ cond t (Ok (kept_opening o)) (Err BreaksRules) → (t ≡ false) × (refusal ≡ BreaksRules)
    go true w = cc
    go false w = (refl, ap of_err w)
