-- `transfers::transfers::transfer_path` meets its contract: the slots that move and come before this one have moved. Assumes nothing.
use native.Mathlib.Omega.{arith}
use Rattle.transfers.specs.Transfers.{share_column}
use borrow.Author.Rules.{rules}
use Rattle.transfers.proofs.MovingLaws.{one_more}
use Rattle.transfers.proofs.PathTransfers.{on_path, slot_number, first_slot, path_moved, path_still, next_slot_fits}
use Rattle.transfers.proofs.transfers.transfer_path.Goals as goal

pub returns-then-path_base-x : goal.returns-then-path_base-x
returns-then-path_base-x c = path_still _ _ _ c.args.f.now c.requires.in_term _ _ _ c.path_base.ensures c.if-path_base-x.true

pub loop-slot-init : goal.loop-slot-init
loop-slot-init c = first_slot _ _ _ c.args.f.now c.requires.in_term

pub transfer_slot-requires : goal.transfer_slot-requires
transfer_slot-requires c = next_slot_fits _ _ _ _ _ _ _ c.requires c.path_base.ensures c.if-path_base-x.false c.loop-slot-test.true (search rules) c.loop-slot.invariant

pub loop-slot-preserved : goal.loop-slot-preserved
loop-slot-preserved c =
    let args = c.args in
    let below_end = c.loop-slot-test.true in
    one_more (share_column args.x) (on_path args.x.term args.p) (slot_number args.x.term args.p) c.loop-slot.slot _ _ _ c.loop-slot.invariant c.transfer_slot.ensures

pub returns : goal.returns
returns c = path_moved _ _ _ _ c.requires.in_term _ _ _ c.path_base.ensures _ _ c.if-path_base-x.false (c.loop-slot.auto.slot-end (omega arith)) c.loop-slot-test.false c.loop-slot.invariant
