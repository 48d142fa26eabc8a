-- `transfers::transfers::transfer_load` meets its contract: each load loses its m and gains the others'. Assumes nothing.
use Rattle.transfers.specs.Transfers.{load_column, load_at}
use Rattle.transfers.proofs.ShareLaws.{load_ext, load_shared, column_transferred}
use Rattle.transfers.proofs.transfers.transfer_load.Goals as goal

pub returns : goal.returns
unfolding load_at
returns c =
    let few = c.requires.1.few in
    column_transferred _ _ _ _ _ (load_column c.args.x) c.requires.0 (λ v w h l same. load_ext c.args.x v w h few l same)
    (load_shared c.args.x c.requires.1 _ _ _ _ c.requires.2 c.transferred_column-next.ensures)
    c.store_column.ensures
