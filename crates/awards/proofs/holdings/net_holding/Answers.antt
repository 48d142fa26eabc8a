-- `awards::holdings::net_holding` meets its contract: the iterator adds up what each holder holds, and that fits. Assumes nothing.
use Rattle.std.proofs.Common.{arith, rules}
use Rattle.tariff.proofs.CountedSums.{counted_can, counted_fits, counted_sum}
use Rattle.ledger.specs.Season.{net}
use Rattle.awards.proofs.HoldingLaws.{has_holding, net_fits}
use Rattle.awards.proofs.holdings.net_holding.Goals as goal

pub sum-requires-clause-can : goal.sum-requires-clause-can
sum-requires-clause-can c =
    let k = c.requires in
    counted_can c.map.ensures.source c.holders.ensures (λ h q called. search rules) (λ h past. search (rules, has_holding _ _ _ _ k.0.reachable _ _ k.1 k.2 k.3 h past))

pub sum-requires-clause-fits : goal.sum-requires-clause-fits
sum-requires-clause-fits c =
    let k = c.requires in
    counted_fits c.map.ensures.source c.holders.ensures (net_fits _ _ _ _ k.0.reachable _ _ k.1 k.2 k.3) (omega arith) (λ h v q called. search rules)

pub returns : goal.returns
unfolding net
returns c m x r = counted_sum c.map.ensures.source c.holders.ensures c.sum.ensures.ran (λ h v q called. search rules)
