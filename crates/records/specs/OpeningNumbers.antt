-- An opening given as numbers, one list after another: the four counts, the kinds of the holders, the kinds and the parents of the sinks, the sources and the sinks of
-- the paths, the settings, and the base of each path. Past the last number stands 0.
use Rattle.std.specs.Prelude.{ℕ, ◌+◌, List, drop, get_or}
use Rattle.tariff.specs.Sizes.{max_holders, max_places}
use Rattle.tariff.specs.Sum.{tabulate}
use Rattle.tariff.specs.Settings.{settings_of}
use Rattle.records.specs.declared.setup.KeptOpening.{KeptOpening}

-- where each list begins
abbrev pub holder_kinds_at : ℕ
holder_kinds_at = 4

abbrev pub sink_kinds_at : ℕ
sink_kinds_at = 12

abbrev pub sink_parents_at : ℕ
sink_parents_at = 28

abbrev pub path_sources_at : ℕ
path_sources_at = 44

abbrev pub path_sinks_at : ℕ
path_sinks_at = 60

abbrev pub settings_at : ℕ
settings_at = 76

abbrev pub bases_at : ℕ
bases_at = 88

-- what stands there
unfoldable pub opening_numbered : List ℕ → KeptOpening
opening_numbered numbers =
    record {
      holders = get_or numbers 0 0;
      sources = get_or numbers 1 0;
      sinks = get_or numbers 2 0;
      paths = get_or numbers 3 0;
      holder_kinds = tabulate max_holders (λ h. get_or numbers (holder_kinds_at + h) 0);
      sink_lines = tabulate max_places (λ s. record { kind = get_or numbers (sink_kinds_at + s) 0; parent = get_or numbers (sink_parents_at + s) 0 });
      path_lines = tabulate max_places (λ p. record { source = get_or numbers (path_sources_at + p) 0; sink = get_or numbers (path_sinks_at + p) 0 });
      settings = settings_of (tabulate 12 (λ k. get_or numbers (settings_at + k) 0));
      bases = tabulate max_places (λ p. get_or numbers (bases_at + p) 0);
    }
