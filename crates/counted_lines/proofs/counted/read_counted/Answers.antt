-- `counted_lines::counted::read_counted` meets its contract. Assumes nothing.
use mathlib.Core.Path.{ap, ◌∙◌}
use mathlib.Core.List.{map}
use borrow.Author.Rules.{rules}
use Rattle.counted_lines.specs.Counted.{with_lines}
use Rattle.counted_lines.proofs.CountedLaws.{none_read, turn, turn_kept, turn_within, rows_cut, rows_read, cut_short, all_read}
use Rattle.counted_lines.proofs.KeptLines.{none_kept}
use Rattle.lines.proofs.KindLaws.{kinds_compared}
use Rattle.counted_lines.proofs.counted.read_counted.Goals as goal

pub loop-k-init : goal.loop-k-init
loop-k-init g c = (none_read _ _ _, none_kept _)

pub returns-then-rest-consumed : goal.returns-then-rest-consumed
returns-then-rest-consumed g c =
    let inv = c.loop-k.invariant in
    let gone = c.if-rest-consumed.true in
    let short = c.loop-k-test.true in record { counted = cut_short _ _ _ _ _ _ inv.0 gone short; kept = inv.1 ∙ ap (λ rows. with_lines (map g.T.CountedLine.line_of rows) c.args.kept.now) (rows_cut _ _ _ _ _ _ inv.0 gone short) }

pub overflow_add-consumed : goal.overflow_add-consumed
overflow_add-consumed g c =
    let inv = c.loop-k.invariant in
    let within = turn_within _ _ _ _ _ _ inv.0 c.if-rest-consumed.false _ c.next_row-next.ensures in
    search rules

pub loop-k-preserved : goal.loop-k-preserved
loop-k-preserved g c =
    let inv = c.loop-k.invariant in
    let some = c.if-rest-consumed.false in
    let read = c.next_row-next.ensures in
    let counts = c.loop-k-test.true in
    (rw (c.eq-complete.ensures ∙ kinds_compared c.next_row-next.result.row.kind c.args.kind) (turn _ _ _ _ _ _ inv.0 some _ read counts), turn_kept _ _ _ _ _ _ inv.0 some _ read _ _ _ _ _ c.from_row.ensures inv.1 c.keep.ensures)

pub returns : goal.returns
returns g c =
    let inv = c.loop-k.invariant in
    let done = c.loop-k-test.false in record { counted = all_read _ _ _ _ _ _ inv.0 done; kept = inv.1 ∙ ap (λ rows. with_lines (map g.T.CountedLine.line_of rows) c.args.kept.now) (rows_read _ _ _ _ _ _ inv.0 done) }
