-- `slots::sums::sum_from_source` meets its contract: the paths that are summed are those from the source. Assumes nothing.
use Rattle.std.proofs.Common.{arith, rules}
use Rattle.tariff.proofs.CountedWhere.{where_can, where_fits, where_sum}
use Rattle.ledger.specs.Opening.{has_source}
use Rattle.ledger.specs.Verification.{sum_from_source}
use Rattle.records.specs.Opening.{opening_in}
use Rattle.slots.proofs.PathSums.{path_cell, source_sum_fits}
use Rattle.slots.proofs.sums.sum_from_source.Goals as goal

pub sum-requires-clause-can : goal.sum-requires-clause-can
unfolding has_source
sum-requires-clause-can c =
    where_can (has_source (opening_in c.args.o.now) c.args.source) c.map.ensures.source c.filter.ensures.source c.paths.ensures (λ p b q called. search rules)
    (λ p q called. search rules) (λ p past. search rules) (λ p q called. search rules) (λ p past. search (rules, path_cell _ _ _ _ c.requires p past))

pub sum-requires-clause-fits : goal.sum-requires-clause-fits
unfolding sum_from_source has_source
sum-requires-clause-fits c =
    where_fits c.map.ensures.source c.filter.ensures.source c.paths.ensures (λ p b q called. search rules) (λ p v q called. search rules)
    (source_sum_fits _ _ _ _ c.args.source c.requires) (omega arith)

pub returns : goal.returns
unfolding sum_from_source has_source
returns c = where_sum c.map.ensures.source c.filter.ensures.source c.paths.ensures (λ p b q called. search rules) (λ p v q called. search rules) c.sum.ensures.ran
