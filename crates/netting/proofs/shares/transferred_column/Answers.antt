-- `netting::shares::transferred_column` meets its contract: each entry is what the holder has then. Assumes nothing.
use Rattle.std.proofs.Common.{◌∙◌, rules}
use Rattle.netting.specs.Netting.{transferred_entry}
use Rattle.netting.proofs.ShareCells.{all_entries}
use Rattle.tariff.proofs.FromFn.{made_list}
use Rattle.netting.proofs.shares.transferred_column.Goals as goal

pub returns : goal.returns
returns c = let a = c.args in made_list _ _ (transferred_entry a.n a.column a.parts.now) (λ k y q called. search rules) 8 _ c.from_fn.ensures.items ∙ all_entries a.n a.column a.parts.now
