-- `load_metric::load::load_posted` meets its contract: a refusal is passed on, and contract load comes off a kW. Assumes nothing.
use Rattle.std.proofs.Common.{Ok}
use Rattle.std.proofs.lemmas.Result.{err_from_is_err_and}
use mathlib.Core.Path.{ap, ◌∙◌}
use Rattle.load_metric.proofs.Refusals.{posted_from}
use Rattle.load_metric.proofs.load.load_posted.Goals as goal

pub returns-in_err-load_metric : goal.returns-in_err-load_metric
returns-in_err-load_metric c = let p = err_from_is_err_and c.from_residual.result c.from_residual.ensures.1 in rw (p.1, p.2) (posted_from _ _ _ _ c.load_metric.ensures c.in_err-load_metric.was)

pub returns : goal.returns
returns c = ap Ok c.saturating_sub.ensures ∙ posted_from _ _ _ _ c.load_metric.ensures c.in_ok-load_metric.was
