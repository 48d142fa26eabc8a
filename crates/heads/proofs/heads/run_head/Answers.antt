-- `heads::heads::run_head` meets its contract: each arm is the request of its kind of head. Assumes nothing.
use mathlib.Core.Path.{refl}
use Rattle.slots.specs.Steps.{query_answer}
use Rattle.book.specs.Reading.{book_in, ledger_of, opening_of_book}
use Rattle.book.specs.Outcomes.{query_answer_in}
use Rattle.book.proofs.OutcomeBooks.{outcome_book}
use Rattle.lines.specs.Rows.{field}
use Rattle.groups.specs.Outcome.{head_group}
use Rattle.groups.proofs.HeadLaws.{carry_request, prior_request, open_request, nominate_request, award_request, close_request, limit_request, held_request, net_request, no_head, by_call, by_query, by_unreadable, beside_evidence}
use Rattle.groups.proofs.OutcomeLaws.{answers_one_line, bytes_one_line, kind_counts, other_counts}
use Rattle.heads.proofs.heads.run_head.Goals as goal

pub returns-in-Load : goal.returns-in-Load
returns-in-Load c = let t = c.run_load.ensures in record { answer = λ x k. beside_evidence _ _ _ _ _ _ _ (t.answer x k); consumed = t.consumed }

pub returns-in-Carry : goal.returns-in-Carry
unfolding field head_group
returns-in-Carry c =
    let one = c.of_call_line.ensures in
    let kind = c.in-Carry.is in record { answer = λ x k. answers_one_line _ _ one _ _ _ (beside_evidence _ _ _ _ _ _ _ (by_call _ _ _ _ _ (outcome_book _ _ _ _ _ _ _ _ _ (c.carry.ensures x k)) (carry_request _ _ kind))); consumed = bytes_one_line _ _ one _ _ (kind_counts _ _ _ kind refl refl) }

pub returns-in-Prior : goal.returns-in-Prior
unfolding field head_group
returns-in-Prior c =
    let one = c.of_call_line-in-Prior.ensures in
    let kind = c.in-Prior.is in record { answer = λ x k. answers_one_line _ _ one _ _ _ (beside_evidence _ _ _ _ _ _ _ (by_call _ _ _ _ _ (outcome_book _ _ _ _ _ _ _ _ _ (c.prior.ensures x k)) (prior_request _ _ kind))); consumed = bytes_one_line _ _ one _ _ (kind_counts _ _ _ kind refl refl) }

pub returns-in-Migrate : goal.returns-in-Migrate
returns-in-Migrate c = let t = c.run_migrate.ensures in record { answer = λ x k. beside_evidence _ _ _ _ _ _ _ (t.answer _ x k); consumed = t.consumed }

pub returns-in-Open : goal.returns-in-Open
unfolding field head_group
returns-in-Open c =
    let one = c.of_call_line-in-Open.ensures in
    let kind = c.in-Open.is in record { answer = λ x k. answers_one_line _ _ one _ _ _ (beside_evidence _ _ _ _ _ _ _ (by_call _ _ _ _ _ (outcome_book _ _ _ _ _ _ _ _ _ (c.open_tier.ensures _ _ x k)) (open_request _ _ kind))); consumed = bytes_one_line _ _ one _ _ (kind_counts _ _ _ kind refl refl) }

pub returns-in-Nominate : goal.returns-in-Nominate
unfolding field head_group
returns-in-Nominate c =
    let one = c.of_call_line-in-Nominate.ensures in
    let kind = c.in-Nominate.is in record { answer = λ x k. answers_one_line _ _ one _ _ _ (beside_evidence _ _ _ _ _ _ _ (by_call _ _ _ _ _ (outcome_book _ _ _ _ _ _ _ _ _ (c.run_nominate.ensures _ x k)) (nominate_request _ _ kind))); consumed = bytes_one_line _ _ one _ _ (kind_counts _ _ _ kind refl refl) }

pub returns-in-Award : goal.returns-in-Award
unfolding field head_group
returns-in-Award c =
    let one = c.of_call_line-in-Award.ensures in
    let kind = c.in-Award.is in record { answer = λ x k. answers_one_line _ _ one _ _ _ (beside_evidence _ _ _ _ _ _ _ (by_call _ _ _ _ _ (outcome_book _ _ _ _ _ _ _ _ _ (c.run_award.ensures _ x k)) (award_request _ _ kind))); consumed = bytes_one_line _ _ one _ _ (kind_counts _ _ _ kind refl refl) }

pub returns-in-Close : goal.returns-in-Close
unfolding field head_group
returns-in-Close c =
    let one = c.of_call_line-in-Close.ensures in
    let kind = c.in-Close.is in record { answer = λ x k. answers_one_line _ _ one _ _ _ (beside_evidence _ _ _ _ _ _ _ (by_call _ _ _ _ _ (outcome_book _ _ _ _ _ _ _ _ _ (c.close_tier.ensures _ _ x k)) (close_request _ _ kind))); consumed = bytes_one_line _ _ one _ _ (kind_counts _ _ _ kind refl refl) }

pub returns-in-Limit : goal.returns-in-Limit
unfolding field head_group query_answer_in query_answer book_in ledger_of opening_of_book
returns-in-Limit c =
    let one = c.of_query_line.ensures in
    let kind = c.in-Limit.is in record { answer = λ x k. answers_one_line _ _ one _ _ _ (beside_evidence _ _ _ _ _ _ _ (by_query _ _ _ _ (c.run_limit.ensures _ x k) (limit_request _ _ kind))); consumed = bytes_one_line _ _ one _ _ (kind_counts _ _ _ kind refl refl) }

pub returns-in-Held : goal.returns-in-Held
unfolding field head_group query_answer_in query_answer book_in ledger_of opening_of_book
returns-in-Held c =
    let one = c.of_query_line-in-Held.ensures in
    let kind = c.in-Held.is in record { answer = λ x k. answers_one_line _ _ one _ _ _ (beside_evidence _ _ _ _ _ _ _ (by_query _ _ _ _ (c.held.ensures _ x k) (held_request _ _ kind))); consumed = bytes_one_line _ _ one _ _ (kind_counts _ _ _ kind refl refl) }

pub returns-in-Net : goal.returns-in-Net
unfolding field head_group query_answer_in query_answer book_in ledger_of opening_of_book
returns-in-Net c =
    let one = c.of_query_line-in-Net.ensures in
    let kind = c.in-Net.is in record { answer = λ x k. answers_one_line _ _ one _ _ _ (beside_evidence _ _ _ _ _ _ _ (by_query _ _ _ _ (c.run_net.ensures _ x k) (net_request _ _ kind))); consumed = bytes_one_line _ _ one _ _ (kind_counts _ _ _ kind refl refl) }

pub returns-in_default : goal.returns-in_default
unfolding head_group
returns-in_default c =
    let one = c.of_one_line.ensures in
    let is = c.in_default in record {
      answer = λ x k. answers_one_line _ _ one _ _ _ (beside_evidence _ _ _ _ _ _ _ (by_unreadable _ _ (no_head _ _ is.not-Load is.not-Carry is.not-Prior is.not-Verify is.not-Migrate is.not-Open is.not-Nominate is.not-Award is.not-Close is.not-Limit is.not-Held is.not-Net)));
      consumed = bytes_one_line _ _ one _ _ (other_counts _ _ is.not-Load is.not-Migrate);
    }
