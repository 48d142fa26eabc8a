-- `groups::counted_calls::answer_counted` meets its contract: the array has a place for each line that is counted. Assumes nothing.
use native.Mathlib.Omega.{arith}
use Rattle.groups.proofs.OutcomeLaws.{rows_few, rows_counted_lem}
use Rattle.groups.proofs.counted_calls.answer_counted.Goals as goal

pub answer_with_room-requires-clause-room : goal.answer_with_room-requires-clause-room
answer_with_room-requires-clause-room g c = let most = rows_counted_lem c.args.count c.args.rest.now in let few = c.if-count.true in omega arith

pub answer_with_room-requires-then-count-2-clause-room : goal.answer_with_room-requires-then-count-2-clause-room
answer_with_room-requires-then-count-2-clause-room g c = let most = rows_counted_lem c.args.count c.args.rest.now in let few = c.if-count-2.true in omega arith

pub answer_with_room-requires-2-clause-room : goal.answer_with_room-requires-2-clause-room
answer_with_room-requires-2-clause-room g c = let most = rows_few c.args.count c.args.rest.now in let few = c.requires.few in omega arith
