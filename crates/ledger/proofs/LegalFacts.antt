-- What is known of a legal opening, rule by rule. Assumes nothing.
use mathlib.Core.Path.{◌≡◌}
use mathlib.Core.Bool.{true, ◌&&◌}
use Rattle.tariff.specs.Sum.{all_below}
use Rattle.tariff.specs.Settings.{settings_legal}
use Rattle.tariff.proofs.Tests.{and_both}
use Rattle.ledger.specs.Opening.{Opening, counts_fit, lists_fit, holder_legal, sink_legal, path_legal, path_new, legal}

pub record LegalFacts (o : Opening) : Type 0 where
  pub counts_fit : counts_fit o ≡ true
  pub lists_fit : lists_fit o ≡ true
  pub holders : all_below o.holders (holder_legal o) ≡ true
  pub sinks : all_below o.sinks (sink_legal o) ≡ true
  pub paths : all_below o.paths (path_legal o) ≡ true
  pub paths_new : all_below o.paths (path_new o) ≡ true
  pub settings : settings_legal o.settings ≡ true

pub legal_facts : (o : Opening) → legal o ≡ true → LegalFacts o
unfolding legal
legal_facts o e =
    let one = counts_fit o && lists_fit o in
    let two = one && all_below o.holders (holder_legal o) in
    let three = two && all_below o.sinks (sink_legal o) in
    let four = three && all_below o.paths (path_legal o) in
    let a = and_both (four && all_below o.paths (path_new o)) (settings_legal o.settings) e in
    let b = and_both four (all_below o.paths (path_new o)) a.0 in
    let c = and_both three (all_below o.paths (path_legal o)) b.0 in
    let d = and_both two (all_below o.sinks (sink_legal o)) c.0 in
    let f = and_both one (all_below o.holders (holder_legal o)) d.0 in
    let g = and_both (counts_fit o) (lists_fit o) f.0 in
    record { counts_fit = g.0; lists_fit = g.1; holders = f.1; sinks = d.1; paths = c.1; paths_new = b.1; settings = a.1 }
