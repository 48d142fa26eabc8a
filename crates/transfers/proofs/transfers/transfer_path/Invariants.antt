-- `transfers::transfers::transfer_path` meets its contract: the slots that move and come before this one have moved. Assumes nothing.
use Rattle.transfers.specs.Columns.{ColumnTransfer}
use Rattle.transfers.specs.Transfers.{share_column, column_where}
use Rattle.transfers.proofs.MovingLaws.{below}
use Rattle.transfers.proofs.PathTransfers.{on_path, slot_number}
use Rattle.transfers.proofs.transfers.transfer_path.Given as goal

abbrev pub invariant-loop-slot : goal.invariant-loop-slot
invariant-loop-slot l = ColumnTransfer (column_where (below (share_column l.x) (on_path l.x.term l.p) (slot_number l.x.term l.p) l.slot) (share_column l.x)) l.initial.f l.f
