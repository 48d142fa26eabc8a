-- `tier_limits::limits::limit` meets its contract: a query that meets no cause is answered by the limit. Assumes nothing.
use Rattle.std.proofs.lemmas.Result.{err_from_is_err_and}
use Rattle.tier_limits.proofs.LimitLaws.{query_inputs, limit_answered}
use Rattle.slots.proofs.StepLaws.{query_refused}
use Rattle.tier_limits.proofs.limits.limit.Goals as goal

pub returns-in_err-check_limit : goal.returns-in_err-check_limit
returns-in_err-check_limit c m x r = let p = err_from_is_err_and c.from_residual.result c.from_residual.ensures.1 in rw (p.1, p.2) (query_refused _ _ _ _ (c.in_err-check_limit.ensures m x r))

pub tier_limit-requires : goal.tier_limit-requires
tier_limit-requires c = query_inputs _ _ _ _ _ _ c.in_ok-check_limit.ensures c.current_tier.ensures c.sink_base-base.ensures c.requires

pub returns : goal.returns
returns c m x r = limit_answered _ _ _ _ _ _ c.in_ok-check_limit.ensures c.current_tier.ensures c.sink_base-base.ensures m x _ r (c.tier_limit.ensures m x r)
