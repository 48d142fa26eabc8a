-- `transfers::transfers::column_at` meets its contract: each entry is read. Assumes nothing.
use Rattle.std.proofs.Common.{rules}
use Rattle.netting.specs.Netting.{column_cells}
use Rattle.tariff.proofs.FromFn.{made_list}
use Rattle.transfers.specs.Columns.{in_column, column_at}
use Rattle.transfers.proofs.transfers.column_at.Goals as goal

pub returns : goal.returns
unfolding column_at column_cells
returns c = let a = c.args in made_list _ _ (in_column a.f.now a.p a.slot) (λ k y q called. search rules) 8 _ c.from_fn.ensures.items
