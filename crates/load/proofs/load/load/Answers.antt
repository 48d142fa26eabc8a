-- `load::load::load` meets its contract: a refusal leaves the arrays, and an accepted load adds to the load of its term and is noted. Assumes nothing.
use native.Mathlib.Omega.{arith}
use Rattle.std.proofs.lemmas.Result.{err_from_is_err_and}
use Rattle.slots.proofs.StepLaws.{steps_refused}
use Rattle.load.proofs.LoadLaws.{load_room, load_cell, load_steps}
use Rattle.load.proofs.load.load.Goals as goal

pub returns-in_err-kw : goal.returns-in_err-kw
returns-in_err-kw c x r = let p = err_from_is_err_and c.from_residual.result c.from_residual.ensures.1 in rw (p.1, p.2) (steps_refused _ _ _ x _ _ (c.in_err-kw.ensures.refused x r) r)

pub add-requires : goal.add-requires
add-requires c = load_room _ _ _ _ _ _ _ _ _ _ _ c.requires.reachable (c.in_ok-kw.ensures.refused _ c.requires.reachable) c.in_ok-kw.ensures.posted _ (omega arith)

pub set_posted-requires : goal.set_posted-requires
set_posted-requires c = load_cell _ _ _ _ _ _ _ _ _ _ _ c.requires.reachable (c.in_ok-kw.ensures.refused _ c.requires.reachable) c.in_ok-kw.ensures.posted _ (omega arith)

pub returns : goal.returns
returns c x r = load_steps _ _ _ x _ _ _ _ _ _ _ r (c.in_ok-kw.ensures.refused x r) c.in_ok-kw.ensures.posted _ _ c.add.ensures c.set_posted.ensures
