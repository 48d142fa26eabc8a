-- `netting::shares::shares_of` meets its contract: each cell holds its share. Assumes nothing.
use Rattle.std.proofs.Common.{◌∙◌, rules}
use Rattle.netting.proofs.ShareCells.{share_cell, share_cells_lem, product_fits}
use Rattle.tariff.proofs.FromFn.{made_list, made_callable}
use Rattle.netting.proofs.shares.shares_of.Goals as goal

pub from_fn-requires : goal.from_fn-requires
from_fn-requires c = (search rules, made_callable 64 _ (λ k q r. search rules) (λ k l. let fits = product_fits _ _ c.requires k l in search rules))

pub returns : goal.returns
returns c = let a = c.args in made_list _ _ (share_cell a.column a.m a.load) (λ k y q called. search rules) 64 _ c.from_fn.ensures.items ∙ share_cells_lem a.column a.m a.load
