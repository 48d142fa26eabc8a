-- `verify::verify::verify_and_file` meets its contract: a refusal leaves the book, and what is filed is stored, noted and kept. Assumes nothing.
use Rattle.std.proofs.lemmas.Result.{err_from_is_err_and}
use Rattle.slots.proofs.StepLaws.{steps_refused}
use Rattle.verify.proofs.VerifyLaws.{decided_cell, decided_steps, decided_filed}
use Rattle.verify.proofs.verify.verify_and_file.Goals as goal

pub returns-in_err-filed : goal.returns-in_err-filed
returns-in_err-filed c = let p = err_from_is_err_and c.from_residual.result c.from_residual.ensures.1 in rw (p.1, p.2) (steps_refused _ _ _ _ _ _ (c.in_err-filed.ensures.refused _ c.requires) c.requires)

pub post-requires : goal.post-requires
post-requires c = decided_cell _ _ _ _ _ _ _ _ c.requires (c.in_ok-filed.ensures.refused _ c.requires) c.in_ok-filed.ensures.filed

pub file-requires : goal.file-requires
file-requires c = decided_cell _ _ _ _ _ _ _ _ c.requires (c.in_ok-filed.ensures.refused _ c.requires) c.in_ok-filed.ensures.filed

pub returns : goal.returns
returns c =
    let unmet = c.in_ok-filed.ensures.refused _ c.requires in
    let files = c.in_ok-filed.ensures.filed in
    let s = decided_steps _ _ _ _ _ _ _ _ c.requires unmet files _ _ c.post.ensures.figures c.post.ensures.posted in
    record { answered = s.answered; figures = s.figures; posted = s.posted; evidence = decided_filed _ _ _ _ _ _ _ _ c.requires unmet files _ c.file.ensures }
