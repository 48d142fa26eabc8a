-- `awards::open_close::close_tier` meets its contract: a refusal leaves the figures, and an accepted call clears the nominations and notes the tier last closed. Assumes nothing.
use Rattle.std.proofs.lemmas.Result.{err_from_is_err_and}
use Rattle.slots.proofs.StepLaws.{steps_refused}
use Rattle.awards.proofs.OpenCloseLaws.{close_steps}
use Rattle.awards.proofs.open_close.close_tier.Goals as goal

pub returns-in_err-check_close : goal.returns-in_err-check_close
returns-in_err-check_close c = λ o m x r. let p = err_from_is_err_and c.from_residual.result c.from_residual.ensures.1 in rw (p.1, p.2) (steps_refused o _ m x _ _ (c.in_err-check_close.ensures _ m x) r)

pub returns : goal.returns
returns c = λ o m x r. close_steps o _ _ m x r c.clear.ensures (c.in_ok-check_close.ensures _ m x) _ _ c.calendar.ensures c.last_closed_after-closed.ensures
