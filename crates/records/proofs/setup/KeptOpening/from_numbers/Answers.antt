-- `records::setup::KeptOpening::from_numbers` meets its contract: each list is read from its place on. Assumes nothing.
use Rattle.std.proofs.Common.{ℕ, ◌+◌, get_or, ap, ◌∙◌, rules}
use Rattle.tariff.proofs.FromFn.{made_entries}
use Rattle.tariff.specs.Settings.{settings_of}
use Rattle.records.specs.declared.setup.SinkLine.{SinkLine}
use Rattle.records.specs.declared.setup.PathLine.{PathLine}
use Rattle.records.specs.Opening.{no_sink, no_path}
use Rattle.records.specs.OpeningNumbers.{sink_kinds_at, sink_parents_at, path_sources_at, path_sinks_at, opening_numbered}
use Rattle.records.proofs.setup.KeptOpening.from_numbers.Goals as goal

pub returns : goal.returns
unfolding opening_numbered
returns c =
    let at : ℕ → ℕ = λ k. get_or c.args.numbers.now k 0 in
    let sinks : ℕ → SinkLine = λ s. record { kind = at (sink_kinds_at + s); parent = at (sink_parents_at + s) } in
    let paths : ℕ → PathLine = λ p. record { source = at (path_sources_at + p); sink = at (path_sinks_at + p) } in
    λ i.
    record {
      holders = c.entry_at.ensures i;
      sources = c.entry_at-2.ensures i;
      sinks = c.entry_at-3.ensures i;
      paths = c.entry_at-4.ensures i;
      holder_kinds = c.numbers_from.ensures i;
      sink_lines = made_entries no_sink _ _ sinks (λ k y q called. search rules) 16 _ c.from_fn.ensures.items i;
      path_lines = made_entries no_path _ _ paths (λ k y q called. search rules) 16 _ c.from_fn-2.ensures.items i;
      settings = (c.from.ensures ∙ ap settings_of c.numbers_from-settings.ensures) i;
      bases = c.numbers_from-2.ensures i;
    }
