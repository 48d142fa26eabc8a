-- `transfers::transfers::transfer_rights` meets its contract: the columns that move on the paths before this one have moved. Assumes nothing.
use Prim.Native.Nat.{zero-le}
use native.Mathlib.Nat.{le_trans}
use Rattle.records.specs.Opening.{opening_in}
use Rattle.transfers.specs.Transfers.{share_column, moves_at}
use borrow.Author.Rules.{rules}
use Rattle.transfers.proofs.MovingLaws.{none_yet, one_more, all_moved}
use Rattle.transfers.proofs.PathTransfers.{path_number, next_path_fits}
use Rattle.transfers.proofs.transfers.transfer_rights.Goals as goal

pub loop-p-init : goal.loop-p-init
loop-p-init c =
    let args = c.args in
    none_yet (share_column args.x) (moves_at (opening_in args.o.now) args.x.term args.x.sink) path_number 0 args.f.now (λ p slot on. zero-le)

pub transfer_path-requires : goal.transfer_path-requires
transfer_path-requires c = next_path_fits _ _ _ _ _ (c.requires _ c.loop-p-test.true) (search rules) c.loop-p.invariant

pub loop-p-preserved : goal.loop-p-preserved
loop-p-preserved c =
    let args = c.args in
    let in-book = c.loop-p-test.true in
    one_more (share_column args.x) (moves_at (opening_in args.o.now) args.x.term args.x.sink) path_number c.loop-p.p _ _ _ c.loop-p.invariant c.transfer_path.ensures

pub returns : goal.returns
returns c =
    let args = c.args in
    all_moved (share_column args.x) (moves_at (opening_in args.o.now) args.x.term args.x.sink) path_number c.loop-p.p _ _ (λ p slot l on. le_trans l c.loop-p-test.false) c.loop-p.invariant
