-- `tier_limits::limits::limit_sums` meets its contract: the slots are those of the tier, and the sums over all paths are the limit's. Assumes nothing.
use native.Mathlib.Omega.{arith}
use Rattle.tier_limits.proofs.LimitLaws.{load_cell, month_range, all_summable, limit_sums_are}
use Rattle.tier_limits.proofs.limits.limit_sums.Goals as goal

pub read-load-requires : goal.read-load-requires
read-load-requires c = load_cell _ _ _ _ _ 0 0 _ c.requires c.tier_rule-rule.ensures

pub overflow_sub-slots : goal.overflow_sub-slots
overflow_sub-slots c = (month_range _ _ _ _ _ _ 0 _ c.requires c.tier_rule-rule.ensures c.carried_month-month.ensures).0

pub overflow_add-slots : goal.overflow_add-slots
overflow_add-slots c = let months = month_range _ _ _ _ _ _ 0 _ c.requires c.tier_rule-rule.ensures c.carried_month-month.ensures in omega arith

pub sum_paths-carried-requires : goal.sum_paths-carried-requires
sum_paths-carried-requires c = all_summable _ _ _ _ _ _ _ _ c.requires c.tier_rule-rule.ensures c.carried_month-month.ensures c.saturating_sub-last.ensures

pub returns : goal.returns
returns c m x r =
    limit_sums_are _ _ _ _ _ _ _ _ c.requires c.tier_rule-rule.ensures m x r _ _ _ _ c.carried_month-month.ensures c.saturating_sub-last.ensures c.read-load.ensures c.sum_paths-carried.ensures (c.ten_year_in-ten_year_kw.ensures m x r) c.is_obaalse-obaalse.ensures
