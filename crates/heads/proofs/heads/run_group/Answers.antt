-- `heads::heads::run_group` meets its contract: the head's line, and the lines that it counts after it. Assumes nothing.
use Rattle.groups.proofs.OutcomeLaws.{head_fits, after_head_few, group_answers, group_bytes_lem, group_fits}
use borrow.Author.Rules.{rules}
use Rattle.heads.proofs.heads.run_group.Goals as goal

pub slice_bounds-run_head-count : goal.slice_bounds-run_head-count
slice_bounds-run_head-count c = head_fits _ _ c.next_row-next.ensures

pub slice_bounds-run_head-start : goal.slice_bounds-run_head-start
slice_bounds-run_head-start c = let within = head_fits _ _ c.next_row-next.ensures in search rules

pub run_head-outcome-requires : goal.run_head-outcome-requires
run_head-outcome-requires c = record { reachable = c.requires.reachable; few = after_head_few _ _ c.next_row-next.ensures _ c.requires.few }

pub overflow_add-result : goal.overflow_add-result
overflow_add-result c = let within = group_fits _ _ c.next_row-next.ensures _ c.run_head-outcome.ensures.consumed in search rules

pub returns : goal.returns
returns c =
    let read = c.next_row-next.ensures in
    let ran = c.run_head-outcome.ensures in record { answer = group_answers _ _ read _ _ _ _ _ _ (λ x k. ran.answer x k); consumed = group_bytes_lem _ _ read _ ran.consumed }
