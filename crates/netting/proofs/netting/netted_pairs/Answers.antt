-- `netting::netting::netted_pairs` meets its contract: each cell is netted with that of the way back. Assumes nothing.
use Rattle.std.proofs.Common.{◌∙◌, rules}
use Rattle.netting.proofs.Pairs.{net_cell, net_cells}
use Rattle.tariff.proofs.FromFn.{made_list}
use Rattle.netting.proofs.netting.netted_pairs.Goals as goal

pub returns : goal.returns
returns c = made_list _ _ (net_cell c.args.watts) (λ k y q called. search rules) 64 _ c.from_fn.ensures.items ∙ net_cells c.args.watts
