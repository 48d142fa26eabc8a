-- `script::run_groups::run_groups` meets its contract: so far it has answered the groups before what is left. Assumes nothing.
use Prim.Native.Nat.{◌≤◌}
use mathlib.Core.Path.{◌≡◌}
use borrow.Author.Rules.{rules}
use lib.ListN.{length}
use Rattle.book.specs.Reading.{book_in}
use Rattle.script.proofs.RunGroupLaws.{none_run, turn_within, turn_writable, turn_smaller, group_more, all_answered}
use Rattle.script.proofs.run_groups.run_groups.Goals as goal

pub loop-rest-init : goal.loop-rest-init
loop-rest-init c = none_run _ _ _ c.requires.reachable c.requires.few c.requires.room

pub run_group-outcome-requires-clause-reachable : goal.run_group-outcome-requires-clause-reachable
unfolding book_in
run_group-outcome-requires-clause-reachable c = let inv = c.loop-rest.invariant in record { evidence = inv.evidence; reachable = inv.so_far.reachable }

pub write_answer-requires : goal.write_answer-requires
unfolding book_in
write_answer-requires c =
    let so_far = c.loop-rest.invariant.so_far in
    let some : 1 ≤ length c.loop-rest.rest.now = search rules in
    let ran = c.run_group-outcome.ensures in
    turn_writable _ _ _ _ _ _ so_far some _ _ _ (ran.answer _ so_far.reachable) ran.consumed

pub slice_bounds-rest-count : goal.slice_bounds-rest-count
unfolding book_in
slice_bounds-rest-count c =
    let so_far = c.loop-rest.invariant.so_far in
    let some : 1 ≤ length c.loop-rest.rest.now = search rules in
    let ran = c.run_group-outcome.ensures in
    turn_within _ _ _ _ _ _ so_far some _ _ _ (ran.answer _ so_far.reachable) ran.consumed

pub slice_bounds-rest-start : goal.slice_bounds-rest-start
unfolding book_in
slice_bounds-rest-start c =
    let so_far = c.loop-rest.invariant.so_far in
    let some : 1 ≤ length c.loop-rest.rest.now = search rules in
    let ran = c.run_group-outcome.ensures in
    let within = turn_within _ _ _ _ _ _ so_far some _ _ _ (ran.answer _ so_far.reachable) ran.consumed in
    search rules

pub loop-rest-smaller : goal.loop-rest-smaller
unfolding book_in
loop-rest-smaller c =
    let so_far = c.loop-rest.invariant.so_far in
    let some : 1 ≤ length c.loop-rest.rest.now = search rules in
    let ran = c.run_group-outcome.ensures in
    turn_smaller _ _ _ _ _ _ so_far some _ _ _ (ran.answer _ so_far.reachable) ran.consumed

pub loop-rest-preserved : goal.loop-rest-preserved
unfolding book_in
loop-rest-preserved c =
    let so_far = c.loop-rest.invariant.so_far in
    let some : 1 ≤ length c.loop-rest.rest.now = search rules in
    let ran = c.run_group-outcome.ensures in
    record { evidence = _; so_far = group_more _ _ _ _ _ _ so_far some _ _ _ (ran.answer _ so_far.reachable) ran.consumed c.write_answer.new.out c.write_answer.ensures }

pub returns : goal.returns
returns c =
    let gone : length c.loop-rest.rest.now ≡ 0 = search rules in
    all_answered _ _ c.args.out.now c.loop-rest.out _ _ c.loop-rest.invariant.so_far gone
