-- `slots::sums::sum_at_base` meets its contract: the paths that are summed are those at the base. Assumes nothing.
use Rattle.std.proofs.Common.{arith, rules}
use Rattle.tariff.proofs.CountedWhere.{where_can, where_fits, where_sum}
use Rattle.ledger.specs.Opening.{has_base}
use Rattle.ledger.specs.Limits.{sum_at_base}
use Rattle.records.specs.Opening.{opening_in}
use Rattle.slots.proofs.PathSums.{base_inputs, path_cell, base_sum_fits}
use Rattle.slots.proofs.sums.sum_at_base.Goals as goal

pub sum-requires-clause-can : goal.sum-requires-clause-can
unfolding has_base
sum-requires-clause-can c =
    where_can (has_base (opening_in c.args.o.now) c.args.base) c.map.ensures.source c.filter.ensures.source c.paths.ensures (λ p b q called. search rules)
    (λ p q called. search rules) (λ p past. search (rules, base_inputs _ _ _ _ c.requires p past)) (λ p q called. search rules) (λ p past. search (rules, path_cell _ _ _ _ c.requires p past))

pub sum-requires-clause-fits : goal.sum-requires-clause-fits
unfolding sum_at_base has_base
sum-requires-clause-fits c =
    where_fits c.map.ensures.source c.filter.ensures.source c.paths.ensures (λ p b q called. search rules) (λ p v q called. search rules)
    (base_sum_fits _ _ _ _ c.args.base c.requires) (omega arith)

pub returns : goal.returns
unfolding sum_at_base has_base
returns c = where_sum c.map.ensures.source c.filter.ensures.source c.paths.ensures (λ p b q called. search rules) (λ p v q called. search rules) c.sum.ensures.ran
