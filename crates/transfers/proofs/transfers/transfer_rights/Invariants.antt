-- `transfers::transfers::transfer_rights` meets its contract: the columns that move on the paths before this one have moved. Assumes nothing.
use Rattle.records.specs.Opening.{opening_in}
use Rattle.transfers.specs.Columns.{ColumnTransfer}
use Rattle.transfers.specs.Transfers.{share_column, moves_at, column_where}
use Rattle.transfers.proofs.MovingLaws.{below}
use Rattle.transfers.proofs.PathTransfers.{path_number}
use Rattle.transfers.proofs.transfers.transfer_rights.Given as goal

abbrev pub invariant-loop-p : goal.invariant-loop-p
invariant-loop-p l = ColumnTransfer (column_where (below (share_column l.x) (moves_at (opening_in l.o) l.x.term l.x.sink) path_number l.p) (share_column l.x)) l.initial.f l.f
