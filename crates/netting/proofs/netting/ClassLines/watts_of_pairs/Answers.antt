-- `netting::netting::ClassLines::watts_of_pairs` meets its contract: the cells hold the watts of the lines passed so far. Assumes nothing.
use Rattle.std.proofs.Common.{◌+◌, ◌*◌, get_or, refl, ap, ◌∙◌, length-set}
use lib.ListN.{set}
use Rattle.netting.specs.declared.netting.ClassLine.{ClassLine}
use Rattle.netting.specs.Netting.{pair_at}
use Rattle.netting.proofs.Pairs.{no_watts, next_watts, watts_room}
use Rattle.netting.proofs.netting.ClassLines.watts_of_pairs.Goals as goal

pub loop-k-init : goal.loop-k-init
loop-k-init c = (refl, no_watts _ _ _ _)

pub overflow_add-cells : goal.overflow_add-cells
unfolding pair_at
overflow_add-cells c =
    let read = c.line-line.ensures in
    let line = c.total_watts.ensures ∙ ap (λ (l : ClassLine). l.customers * l.watts) read in
    record { fits = rw (ap (λ (l : ClassLine). get_or c.loop-k.cells (l.from * 8 + l.to) 0) read) (watts_room _ _ _ _ c.requires _ c.loop-k.cells c.loop-k-test.true c.loop-k.invariant.1 _ line) }

pub loop-k-preserved : goal.loop-k-preserved
unfolding pair_at
loop-k-preserved c =
    let inv = c.loop-k.invariant in
    let cells = c.loop-k.cells in
    let read = c.line-line.ensures in
    let line = c.total_watts.ensures ∙ ap (λ (l : ClassLine). l.customers * l.watts) read in
    let stored = ap (λ (l : ClassLine). set cells (l.from * 8 + l.to) (get_or cells (l.from * 8 + l.to) 0 + c.total_watts.result)) read in
    (simp length-set inv.0, next_watts _ _ _ _ _ cells _ _ c.requires c.loop-k-test.true inv.0 line stored inv.1)
