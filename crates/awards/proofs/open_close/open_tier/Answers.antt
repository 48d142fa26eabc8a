-- `awards::open_close::open_tier` meets its contract: a refusal leaves the figures, and an accepted call clears the nominations and notes the tier, and the Long Term step as held. Assumes nothing.
use Rattle.std.proofs.Common.{◌≡◌, ◌||◌, arith}
use Rattle.tariff.specs.Terms.{is_long_term_step}
use Rattle.slots.specs.Layout.{calendar_in}
use Rattle.std.proofs.lemmas.Result.{err_from_is_err_and}
use Rattle.slots.proofs.StepLaws.{steps_refused}
use Rattle.awards.proofs.OpenCloseLaws.{open_steps}
use Rattle.awards.proofs.open_close.open_tier.Goals as goal
use Rattle.awards.proofs.open_close.open_tier.Goals.{then-tier-eq-LONG_TERM_STEP, else-tier-eq-LONG_TERM_STEP}

pub returns-in_err-check_open : goal.returns-in_err-check_open
returns-in_err-check_open c = λ o m x r. let p = err_from_is_err_and c.from_residual.result c.from_residual.ensures.1 in rw (p.1, p.2) (steps_refused o _ m x _ _ (c.in_err-check_open.ensures _ m x) r)

pub returns : goal.returns
unfolding is_long_term_step
returns c = λ o m x r.
    let held : c.if-tier-eq-LONG_TERM_STEP.from ≡ (is_long_term_step c.args.tier || (calendar_in c.args.f.now).step_held) =
    elim c.if-tier-eq-LONG_TERM_STEP.branch [ then-tier-eq-LONG_TERM_STEP w ↦ grind arith | else-tier-eq-LONG_TERM_STEP w ↦ grind arith ] in
    open_steps o _ _ m x r c.clear.ensures _ (c.in_ok-check_open.ensures _ m x) _ held _ c.from-held.ensures
