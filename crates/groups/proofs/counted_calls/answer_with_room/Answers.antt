-- `groups::counted_calls::answer_with_room` meets its contract: the lines are read, and put to the call if they are complete. Assumes nothing.
use Rattle.std.proofs.Common.{sym, ◌∙◌}
use Rattle.tariff.proofs.Tests.{both_ways}
use Rattle.groups.proofs.OutcomeLaws.{complete_is, consumed_is, count_fits, lines_are}
use Rattle.groups.proofs.counted_calls.answer_with_room.Goals as goal

pub shared_whole_as_front-call : goal.shared_whole_as_front-call
shared_whole_as_front-call g c = (count_fits _ _ _ _ c.read_counted-read.ensures.counted c.if-read.true _ c.requires.room, c.requires.memory)

pub returns-then-read-clause-read : goal.returns-then-read-clause-read
returns-then-read-clause-read g c e =
    record {
      called = c.call.result;
      put = record { shown = _; shows = lines_are _ _ _ _ c.read_counted-read.ensures.counted c.if-read.true g.T.CountedLine.line_of _ _ _ c.requires.room c.read_counted-read.ensures.kept; called = c.call.ensures };
      answered = c.of_call-answer.ensures;
    }

pub returns-then-read-clause-unread : goal.returns-then-read-clause-unread
returns-then-read-clause-unread g c e = absurd (both_ways (sym (complete_is _ _ _ _ c.read_counted-read.ensures.counted) ∙ c.if-read.true) e)

pub returns-then-read-clause-consumed : goal.returns-then-read-clause-consumed
returns-then-read-clause-consumed g c = consumed_is _ _ _ _ c.read_counted-read.ensures.counted

pub returns-else-read-clause-read : goal.returns-else-read-clause-read
returns-else-read-clause-read g c e = absurd (both_ways e (sym (complete_is _ _ _ _ c.read_counted-read.ensures.counted) ∙ c.if-read.false))

pub returns-else-read-clause-consumed : goal.returns-else-read-clause-consumed
returns-else-read-clause-consumed g c = consumed_is _ _ _ _ c.read_counted-read.ensures.counted
