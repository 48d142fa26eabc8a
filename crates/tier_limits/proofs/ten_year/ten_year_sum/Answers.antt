-- `tier_limits::ten_year::ten_year_sum` meets its contract: the iterator adds up what the evidence comes to at each source, and that fits. Assumes nothing.
use Rattle.std.proofs.Common.{arith, rules}
use Rattle.tariff.proofs.CountedSums.{counted_can, counted_fits, counted_sum}
use Rattle.ledger.specs.TenYear.{ten_year_sum}
use Rattle.slots.proofs.Reachable.{counts}
use Rattle.tier_limits.proofs.TenYearLaws.{sources_fit}
use Rattle.tier_limits.proofs.ten_year.ten_year_sum.Goals as goal

pub sum-requires-clause-can : goal.sum-requires-clause-can
sum-requires-clause-can c =
    let few = (counts _ _ _ _ c.requires.figures.reachable).1 in
    counted_can c.map.ensures.source c.sources.ensures (λ s q called. search rules) (λ s past. search rules)

pub sum-requires-clause-fits : goal.sum-requires-clause-fits
sum-requires-clause-fits c =
    let k = c.requires in
    let reachable = k.figures.reachable in
    counted_fits c.map.ensures.source c.sources.ensures (sources_fit _ _ _ _ reachable _ k.holder) (omega arith) (λ s v q called. search rules)

pub returns : goal.returns
unfolding ten_year_sum
returns c m x r = counted_sum c.map.ensures.source c.sources.ensures c.sum.ensures.ran (λ s v q called. search rules)
