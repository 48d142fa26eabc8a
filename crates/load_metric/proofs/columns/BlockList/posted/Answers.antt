-- `load_metric::columns::BlockList::posted` meets its contract: a refusal is passed on, and contract load comes off a kW. Assumes nothing.
use Rattle.std.proofs.Common.{Ok}
use Rattle.std.proofs.lemmas.Result.{err_from_is_err_and}
use mathlib.Core.Path.{ap, ◌∙◌}
use Rattle.load_metric.proofs.Refusals.{posted_from}
use Rattle.load_metric.proofs.columns.BlockList.posted.Goals as goal

pub returns-in_err-metric : goal.returns-in_err-metric
returns-in_err-metric c = let p = err_from_is_err_and c.from_residual.result c.from_residual.ensures.1 in rw (p.1, p.2) (posted_from _ _ _ _ c.metric.ensures c.in_err-metric.was)

pub returns : goal.returns
returns c = ap Ok c.saturating_sub.ensures ∙ posted_from _ _ _ _ c.metric.ensures c.in_ok-metric.was
