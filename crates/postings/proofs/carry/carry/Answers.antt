-- `postings::carry::carry` meets its contract: a refusal leaves the arrays, and an accepted carry adds to the carried rights and is noted. Assumes nothing.
use mathlib.Core.Path.{refl}
use Rattle.std.proofs.lemmas.Result.{err_from_is_err_and}
use Rattle.postings.proofs.CarryLaws.{carry_room, carry_cell, carry_steps}
use Rattle.slots.proofs.StepLaws.{steps_refused}
use Rattle.postings.proofs.carry.carry.Goals as goal

pub returns-in_err-check : goal.returns-in_err-check
returns-in_err-check c x r = let p = err_from_is_err_and c.from_residual.result c.from_residual.ensures.1 in rw (p.1, p.2) (steps_refused _ _ _ x _ _ (c.in_err-check.ensures.carry _ c.kw_out_of_range.ensures refl x r) r)

pub add_in_term-requires : goal.add_in_term-requires
add_in_term-requires c = carry_room _ _ _ _ _ _ _ c.requires.reachable (c.in_ok-check.ensures.carry _ c.kw_out_of_range.ensures refl _ c.requires.reachable)

pub set_posted-requires : goal.set_posted-requires
set_posted-requires c = carry_cell _ _ _ _ _ _ _ c.requires.reachable (c.in_ok-check.ensures.carry _ c.kw_out_of_range.ensures refl _ c.requires.reachable)

pub returns : goal.returns
returns c x r = carry_steps _ _ _ x _ _ _ r (c.in_ok-check.ensures.carry _ c.kw_out_of_range.ensures refl x r) _ _ c.add_in_term.ensures c.set_posted.ensures
