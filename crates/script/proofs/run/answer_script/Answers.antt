-- `script::run::answer_script` meets its contract: the book group is answered, and where it opens a book what is left. Assumes nothing.
use mathlib.Core.Path.{sym, ap}
use borrow.Author.Rules.{rules}
use Rattle.records.specs.Answers.{answer_in}
use Rattle.book_group.specs.BookGroup.{group_answer}
use Rattle.lines.proofs.WritingLaws.{wrote_as}
use Rattle.script.proofs.ScriptLaws.{first_writable, stopped, left_reachable, left_within, left_few, left_room, gone_on}
use Rattle.script.proofs.run.answer_script.Goals as goal

pub write_answer-requires : goal.write_answer-requires
unfolding group_answer
write_answer-requires c = first_writable _ c.args.out.now c.requires.some c.requires.few c.requires.room _ c.open_from_script-group.ensures _ (ap group_answer (sym c.in-Err.is))

pub returns-in-Err : goal.returns-in-Err
returns-in-Err c = wrote_as c.args.out.now c.write_answer.new.out _ _ (stopped _ c.args.out.now c.requires.some c.requires.few c.requires.room _ c.open_from_script-group.ensures _ c.in-Err.is) c.write_answer.ensures

pub write_answer-requires-in-Ok : goal.write_answer-requires-in-Ok
unfolding group_answer
write_answer-requires-in-Ok c = first_writable _ c.args.out.now c.requires.some c.requires.few c.requires.room _ c.open_from_script-group.ensures _ (ap group_answer (sym c.in-Ok.is))

pub slice_bounds-run_groups-count : goal.slice_bounds-run_groups-count
slice_bounds-run_groups-count c = left_within _ c.args.out.now c.requires.some c.requires.few c.requires.room _ c.open_from_script-group.ensures _ c.in-Ok.is

pub slice_bounds-run_groups-start : goal.slice_bounds-run_groups-start
slice_bounds-run_groups-start c =
    let within = left_within _ c.args.out.now c.requires.some c.requires.few c.requires.room _ c.open_from_script-group.ensures _ c.in-Ok.is in search rules

pub run_groups-requires-clause-reachable : goal.run_groups-requires-clause-reachable
run_groups-requires-clause-reachable c = left_reachable _ c.args.out.now c.requires.some c.requires.few c.requires.room _ c.open_from_script-group.ensures _ c.in-Ok.is

pub run_groups-requires-clause-few : goal.run_groups-requires-clause-few
run_groups-requires-clause-few c = left_few _ c.args.out.now c.requires.some c.requires.few c.requires.room _ c.open_from_script-group.ensures _ c.in-Ok.is

pub run_groups-requires-clause-room : goal.run_groups-requires-clause-room
unfolding answer_in
run_groups-requires-clause-room c = left_room _ c.args.out.now c.requires.some c.requires.few c.requires.room _ c.open_from_script-group.ensures _ c.in-Ok.is c.write_answer-in-Ok.new.out c.write_answer-in-Ok.ensures

pub returns-in-Ok : goal.returns-in-Ok
unfolding answer_in
returns-in-Ok c = gone_on _ c.args.out.now c.requires.some c.requires.few c.requires.room _ c.open_from_script-group.ensures _ c.in-Ok.is c.write_answer-in-Ok.new.out c.write_answer-in-Ok.ensures c.run_groups.new.out c.run_groups.ensures
