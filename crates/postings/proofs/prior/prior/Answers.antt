-- `postings::prior::prior` meets its contract: a refusal leaves the arrays, and an accepted prior adds its two figures and is noted. Assumes nothing.
use mathlib.Core.Path.{refl}
use native.Mathlib.Omega.{arith}
use Rattle.std.proofs.lemmas.Result.{err_from_is_err_and}
use Rattle.slots.proofs.RoomLaws.{room_now}
use Rattle.slots.proofs.StepLaws.{steps_refused}
use Rattle.postings.proofs.PriorLaws.{prior_part, prior_room, remaining_room, prior_cell, prior_steps}
use Rattle.postings.proofs.prior.prior.Goals as goal

pub returns-in_err-check : goal.returns-in_err-check
returns-in_err-check c x r = let p = err_from_is_err_and c.from_residual.result c.from_residual.ensures.1 in rw (p.1, p.2) (steps_refused _ _ _ x _ _ (c.in_err-check.ensures.prior _ _ c.prior_out_of_range.ensures refl x r) r)

pub add-requires : goal.add-requires
add-requires c = room_now _ _ _ _ _ _ _ (prior_room _ _ _ _ _ _ _ _ c.requires.reachable (c.in_ok-check.ensures.prior _ _ c.prior_out_of_range.ensures refl _ c.requires.reachable)) (omega arith) (omega arith)

pub overflow_sub-remaining : goal.overflow_sub-remaining
overflow_sub-remaining c = let part = prior_part _ _ _ _ _ _ _ _ c.requires.reachable (c.in_ok-check.ensures.prior _ _ c.prior_out_of_range.ensures refl _ c.requires.reachable) in omega arith

pub add-requires-2 : goal.add-requires-2
add-requires-2 c = room_now _ _ _ _ _ _ _ (remaining_room _ _ _ _ _ _ _ _ c.requires.reachable (c.in_ok-check.ensures.prior _ _ c.prior_out_of_range.ensures refl _ c.requires.reachable) _ c.add.ensures) (omega arith) (omega arith)

pub set_posted-requires : goal.set_posted-requires
set_posted-requires c = prior_cell _ _ _ _ _ _ _ _ c.requires.reachable (c.in_ok-check.ensures.prior _ _ c.prior_out_of_range.ensures refl _ c.requires.reachable)

pub returns : goal.returns
returns c x r = prior_steps _ _ _ x _ _ _ _ r (c.in_ok-check.ensures.prior _ _ c.prior_out_of_range.ensures refl x r) _ _ _ c.add.ensures c.add-2.ensures c.set_posted.ensures
