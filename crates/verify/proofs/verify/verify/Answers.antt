-- `verify::verify::verify` meets its contract: a refusal leaves the arrays, and what is filed is stored and noted. Assumes nothing.
use Rattle.std.proofs.lemmas.Result.{err_from_is_err_and}
use Rattle.slots.proofs.StepLaws.{steps_refused, beside_next_evidence}
use Rattle.verify.proofs.VerifyLaws.{decided_cell, decided_steps}
use Rattle.verify.proofs.verify.verify.Goals as goal

pub returns-in_err-filed : goal.returns-in_err-filed
returns-in_err-filed c x r =
    let p = err_from_is_err_and c.from_residual.result c.from_residual.ensures.1 in
    rw (p.1, p.2) (beside_next_evidence _ _ _ _ _ _ x (steps_refused _ _ _ x _ _ (c.in_err-filed.ensures.refused x r) r))

pub post-requires : goal.post-requires
post-requires c = decided_cell _ _ _ _ _ _ _ _ c.requires.reachable (c.in_ok-filed.ensures.refused _ c.requires.reachable) c.in_ok-filed.ensures.filed

pub returns : goal.returns
returns c x r = decided_steps _ _ _ _ _ _ _ _ r (c.in_ok-filed.ensures.refused x r) c.in_ok-filed.ensures.filed _ _ c.post.ensures.figures c.post.ensures.posted
