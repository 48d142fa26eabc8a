-- `load::columns::first_blocks` meets its contract: each place has the block of its number. Assumes nothing.
use Rattle.std.proofs.Common.{rules}
use Rattle.tariff.proofs.FromFn.{made_entries}
use Rattle.load_metric.specs.Columns.{block_in}
use Rattle.load_metric.proofs.Blocks.{zero_block}
use Rattle.load.proofs.columns.first_blocks.Goals as goal

pub returns : goal.returns
returns g c = made_entries zero_block _ _ (block_in c.args.columns) (λ k y q called. search rules) g.row.N _ c.from_fn.ensures.items
