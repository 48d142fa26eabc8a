-- `tariff_rows::transfers::write_transfer` calls `transferred_column` only where what it requires was found to hold. Assumes nothing.
use borrow.Author.Rules.{rules}
use Rattle.tariff_rows.proofs.Bounds.{parts_fit}
use Rattle.tariff_rows.proofs.transfers.write_transfer.Goals as goal

pub transferred_column-after-requires : goal.transferred_column-after-requires
transferred_column-after-requires g c =
    let a = c.args in
    parts_fit a.column a.m a.load c.shares_of-parts.result (search rules) (c.moderate.ensures.0 c.if-moderate.true) (c.within_load.ensures.0 c.if-within_load.true) c.shares_of-parts.ensures
