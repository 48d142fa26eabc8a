-- `load_metric::columns::BlockList::highest` meets its contract: the third column is the blocks' kW. Assumes nothing.
use Rattle.std.proofs.Common.{nat_cmp, sym, ap, ◌∙◌, rules}
use Rattle.std.specs.List.{reduce}
use Rattle.std.specs.Option.{unwrap_or}
use Rattle.std.specs.Ordering.{max_by_ordering}
use Rattle.std.proofs.lemmas.Iterator.{YieldsList-from_slice}
use Rattle.std.proofs.lemmas.Iterator.Consumers.{YieldsList-at, YieldsList-from_copied, reduce_from_yields_List}
use Rattle.std.proofs.lemmas.List.Folds.{max_of_map}
use Rattle.load_metric.specs.declared.block.Block.{Block}
use Rattle.load_metric.specs.Columns.{blocks_in}
use Rattle.load_metric.proofs.Lowest.{highest_folded}
use Rattle.load_metric.proofs.ColumnLaws.{kws_back}
use Rattle.load_metric.proofs.columns.BlockList.highest.Goals as goal

pub returns : goal.returns
returns c =
    let columns = c.args.self.columns in
    let same = kws_back _ _ _ c.args.self.same_lengths in
    c.unwrap_or.ensures
    ∙ ap (λ r. unwrap_or r 0) (reduce_from_yields_List _ _ _ c.max.ensures.ran (YieldsList-from_copied (YieldsList-at c.copied.ensures.source (YieldsList-from_slice columns.kws.now (search rules)))))
    ∙ ap (λ kws. unwrap_or (reduce (λ p z. max_by_ordering (nat_cmp p z) p z) kws) 0) (sym same)
    ∙ max_of_map (λ (b : Block). b.kw) (blocks_in columns)
    ∙ highest_folded (blocks_in columns)
