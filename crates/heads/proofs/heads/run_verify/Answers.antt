-- `heads::heads::run_verify` meets its contract: it is the verify of the line's numbers. Assumes nothing.
use mathlib.Core.Path.{refl}
use Rattle.book.proofs.OutcomeBooks.{outcome_book}
use Rattle.lines.specs.Rows.{field}
use Rattle.groups.specs.Outcome.{head_group}
use Rattle.groups.proofs.HeadLaws.{verify_request, by_call, beside_evidence}
use Rattle.groups.proofs.OutcomeLaws.{answers_one_line, bytes_one_line, kind_counts}
use Rattle.heads.proofs.heads.run_verify.Goals as goal

pub returns : goal.returns
unfolding field head_group
returns c =
    let one = c.of_call_line.ensures in
    let kind = c.requires.verify in record { answer = λ rest x k. answers_one_line _ _ one _ _ _ (beside_evidence _ _ _ _ _ _ _ (by_call _ _ _ _ _ (outcome_book _ _ _ _ _ _ _ _ _ (c.verify.ensures x k)) (verify_request _ _ kind))); consumed = λ rest. bytes_one_line _ _ one _ _ (kind_counts _ _ _ kind refl refl) }
