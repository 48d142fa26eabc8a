-- `nominations::nominate::nominate` meets its contract: a refusal leaves the figures, and an accepted nomination adds to the open tier's. Assumes nothing.
use Rattle.std.proofs.lemmas.Result.{err_from_is_err_and}
use Rattle.slots.proofs.StepLaws.{steps_refused}
use Rattle.nominations.proofs.NominateLaws.{nominate_room, nominate_steps}
use Rattle.nominations.proofs.nominate.nominate.Goals as goal

pub returns-in_err-check_nominate : goal.returns-in_err-check_nominate
returns-in_err-check_nominate c m x r = let p = err_from_is_err_and c.from_residual.result c.from_residual.ensures.1 in rw (p.1, p.2) (steps_refused _ _ m x _ _ (c.in_err-check_nominate.ensures m x r) r)

pub add-requires : goal.add-requires
add-requires c = nominate_room _ _ _ _ _ _ _ c.requires.reachable (c.in_ok-check_nominate.ensures _ _ c.requires.reachable)

pub returns : goal.returns
returns c m x r = nominate_steps _ _ m x _ _ _ r (c.in_ok-check_nominate.ensures m x r) _ c.add.ensures
