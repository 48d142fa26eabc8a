-- `nomination_tests::nomination::Nomination::some_path_lacks` meets its contract: the search ends at the first path whose source has none. Assumes nothing.
use Rattle.std.proofs.Common.{ℕ, not, ◌&&◌, ap, ◌∙◌, rules}
use Rattle.tariff.specs.Sum.{any_below}
use Rattle.tariff.proofs.Counted.{any_counted}
use Rattle.ledger.specs.Opening.{path_source}
use Rattle.ledger.specs.TenYear.{has_ten_year}
use Rattle.ledger.specs.Causes.{needs_evidence_at}
use Rattle.records.specs.Opening.{opening_in}
use Rattle.slots.specs.Layout.{ledger_in}
use Rattle.nomination_tests.proofs.nomination.Nomination.some_path_lacks.Goals as goal

pub returns : goal.returns
returns c =
    rw (← c.self.view_is) (λ m x r.
    let n = c.self.inside in
    let O = opening_in n.opening.now in
    let L = ledger_in n.figures.now m x in
    let test = λ (q : ℕ). needs_evidence_at O L L.tiers.current_tier n.holder n.path q && not (has_ten_year L n.holder (path_source O q)) in
    any_counted test _ _ c.any.ensures.ran (λ k b q called. search rules) ∙ ap (λ n. any_below n test) c.paths.ensures)
