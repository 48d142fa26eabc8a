-- `nomination_tests::source_usage::source_usage` meets its contract. Assumes nothing.
use native.Mathlib.Omega.{arith}
use Rattle.slots.proofs.Figures.{summable}
use Rattle.tier_limits.proofs.LimitLaws.{open_last_lem}
use Rattle.nomination_tests.proofs.UsageLaws.{usage_fits, usage_is}
use Rattle.nomination_tests.proofs.source_usage.source_usage.Goals as goal

pub used_before-before-requires : goal.used_before-before-requires
used_before-before-requires c = record { figures = c.requires.figures; holder = c.requires.holder; last = open_last_lem _ _ _ _ c.requires.figures.reachable _ c.current_tier.ensures }

pub sum_from_source-requires : goal.sum_from_source-requires
sum_from_source-requires c = summable _ _ _ _ c.requires.figures.reachable _ _ c.requires.holder (omega arith)

pub overflow_add-result : goal.overflow_add-result
overflow_add-result c =
    let k = c.requires.figures.reachable in
    let is = usage_is _ _ _ _ k _ _ c.requires.holder _ _ _ c.current_tier.ensures c.sum_from_source.ensures (c.used_before-before.ensures _ _ k) in
    let fits = usage_fits _ _ _ _ k _ c.args.s c.requires.holder in
    omega arith

pub returns : goal.returns
returns c m x r = usage_is _ _ m x r _ _ c.requires.holder _ _ _ c.current_tier.ensures c.sum_from_source.ensures (c.used_before-before.ensures m x r)
