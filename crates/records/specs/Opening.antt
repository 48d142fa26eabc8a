-- The opening that a book keeps.
use Rattle.std.specs.Prelude.{ℕ, ◌≡◌, List, [], map, get_or}
use Rattle.std.specs.Borrow.{Bor}
use Rattle.tariff.specs.Sizes.{max_holders, max_places}
use Rattle.tariff.specs.declared.settings.Settings.{Settings}
use Rattle.tariff.specs.Sum.{tabulate}
use Rattle.tariff.specs.Settings.{present_settings}
use Rattle.ledger.specs.Opening.{Opening, path_base}
use Rattle.records.specs.declared.setup.KeptOpening.{KeptOpening}
use Rattle.records.specs.declared.setup.SinkLine.{SinkLine}
use Rattle.records.specs.declared.setup.PathLine.{PathLine}

-- a list with so many entries: what is past its end is none
unfoldable pub with_room : {A : Type 0} → A → ℕ → List A → List A
with_room none room xs = tabulate room (λ k. get_or xs k none)

-- what stands past the last line of a sink and of a path
abbrev pub no_sink : SinkLine
no_sink = record { kind = 0; parent = 0 }

abbrev pub no_path : PathLine
no_path = record { source = 0; sink = 0 }

-- the opening that a book keeps: as many lines of each kind as are counted
unfoldable pub opening_in : KeptOpening → Opening
opening_in o =
    record {
      holders = o.holders;
      sources = o.sources;
      sinks = o.sinks;
      paths = o.paths;
      holder_kinds = with_room 0 o.holders o.holder_kinds;
      sink_kinds = map (λ line. line.kind) (with_room no_sink o.sinks o.sink_lines);
      sink_parents = map (λ line. line.parent) (with_room no_sink o.sinks o.sink_lines);
      path_sources = map (λ line. line.source) (with_room no_path o.paths o.path_lines);
      path_sinks = map (λ line. line.sink) (with_room no_path o.paths o.path_lines);
      settings = o.settings;
    }

-- the same of one that is lent
abbrev pub opening_of : Bor KeptOpening → Opening
opening_of o = opening_in o.now

-- the base of each path
unfoldable pub path_bases : Opening → List ℕ
path_bases o = tabulate max_places (path_base o)

-- what stands on the line of a sink and of a path
abbrev pub sink_line : Opening → ℕ → SinkLine
sink_line o s = record { kind = get_or o.sink_kinds s 0; parent = get_or o.sink_parents s 0 }

abbrev pub path_line : Opening → ℕ → PathLine
path_line o p = record { source = get_or o.path_sources p 0; sink = get_or o.path_sinks p 0 }

-- an opening as it is kept: past the lines of a kind stands 0, and the bases, which follow from the lines, stand beside them
unfoldable pub kept_opening : Opening → KeptOpening
kept_opening o =
    record {
      holders = o.holders;
      sources = o.sources;
      sinks = o.sinks;
      paths = o.paths;
      holder_kinds = with_room 0 max_holders o.holder_kinds;
      sink_lines = tabulate max_places (sink_line o);
      path_lines = tabulate max_places (path_line o);
      settings = o.settings;
      bases = path_bases o;
    }

-- one that keeps the bases of its own paths
abbrev pub KeepsBases : KeptOpening → Type 0
KeepsBases o = o.bases ≡ path_bases (opening_in o)

-- the counts, lists and settings that a caller opens with
unfoldable pub opening_from : ℕ → ℕ → ℕ → ℕ → List ℕ → List ℕ → List ℕ → List ℕ → List ℕ → Settings → Opening
opening_from holders sources sinks paths holder_kinds sink_kinds sink_parents path_sources path_sinks settings =
    record {
      holders = holders;
      sources = sources;
      sinks = sinks;
      paths = paths;
      holder_kinds = holder_kinds;
      sink_kinds = sink_kinds;
      sink_parents = sink_parents;
      path_sources = path_sources;
      path_sinks = path_sinks;
      settings = settings;
    }

-- an opening with nothing in it, by the present figures; it is legal
unfoldable pub empty_opening : Opening
empty_opening =
    record { holders = 0; sources = 0; sinks = 0; paths = 0; holder_kinds = []; sink_kinds = []; sink_parents = []; path_sources = []; path_sinks = []; settings = present_settings }
