-- `nomination_tests::source_usage::used_before` meets its contract: the tiers whose awards are summed are those that use the same evidence. Assumes nothing.
use Rattle.std.proofs.Common.{◌∙◌, ◌+◌, refl, arith, rules}
use Rattle.tariff.proofs.CountedWhere.{where_can, where_fits, where_sum}
use Rattle.ledger.specs.Verification.{uses_same_evidence}
use Rattle.slots.specs.Layout.{awards_slot}
use Rattle.slots.proofs.Figures.{summable}
use Rattle.nomination_tests.proofs.UsageLaws.{before_is, before_fits}
use Rattle.nomination_tests.proofs.source_usage.used_before.Goals as goal

pub sum-requires-clause-can : goal.sum-requires-clause-can
sum-requires-clause-can c =
    let k = c.requires in
    where_can (uses_same_evidence c.args.tier) c.map.ensures.source c.filter.ensures.source refl (λ n b q called. search rules)
    (λ n q called. search rules) (λ n past. search rules) (λ n q called. search rules) (λ n past. let last = k.last in let sums = summable _ _ _ _ k.figures.reachable c.args.h (awards_slot + n) k.holder (omega arith) in search (rules, sums))

pub sum-requires-clause-fits : goal.sum-requires-clause-fits
sum-requires-clause-fits c =
    let k = c.requires in
    where_fits c.map.ensures.source c.filter.ensures.source refl (λ n b q called. search rules) (λ n v q called. search rules)
    (before_fits _ _ _ _ k.figures.reachable _ c.args.s k.holder _ k.last) (omega arith)

pub returns : goal.returns
returns c m x r =
    let k = c.requires in
    where_sum c.map.ensures.source c.filter.ensures.source refl (λ n b q called. search rules) (λ n v q called. search rules) c.sum.ensures.ran ∙ before_is _ _ m x r _ _ k.holder _ k.last
