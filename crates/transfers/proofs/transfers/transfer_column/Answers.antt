-- `transfers::transfers::transfer_column` meets its contract: the column is read, its shares are taken and it is stored. Assumes nothing.
use Rattle.transfers.specs.Transfers.{share_column}
use Rattle.transfers.proofs.ShareLaws.{share_ext, products_fit, column_fits, parts_fit, column_shared, column_transferred, column_left, empty_column}
use borrow.Author.Rules.{rules}
use Rattle.transfers.proofs.transfers.transfer_column.Goals as goal

pub returns-then-is_empty : goal.returns-then-is_empty
returns-then-is_empty c = column_left _ _ _ _ c.requires.0 c.requires.1 (empty_column _ _ _ _ c.column_at-column.ensures (search rules) (c.is_empty.ensures.0 c.if-is_empty.true))

pub shares_of-parts-requires : goal.shares_of-parts-requires
shares_of-parts-requires c = products_fit _ c.requires.1 _ (column_fits _ c.requires.1 _ _ _ _ c.column_at-column.ensures c.requires.2)

pub transferred_column-next-requires : goal.transferred_column-next-requires
transferred_column-next-requires c = parts_fit _ c.requires.1 _ _ (column_fits _ c.requires.1 _ _ _ _ c.column_at-column.ensures c.requires.2) c.shares_of-parts.ensures

pub returns : goal.returns
returns c =
    let few = c.requires.1.few in
    column_transferred _ _ _ _ _ (share_column c.args.x) c.requires.0 (λ v w h l same. share_ext c.args.x v w h few l same)
    (column_shared c.args.x c.requires.1 _ _ _ _ _ _ c.column_at-column.ensures c.shares_of-parts.ensures c.transferred_column-next.ensures)
    c.store_column.ensures
