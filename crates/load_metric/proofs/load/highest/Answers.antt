-- `load_metric::load::highest` meets its contract: the largest of the blocks' kW. Assumes nothing.
use Rattle.std.proofs.Common.{ap, ◌∙◌, rules}
use Rattle.std.specs.Option.{unwrap_or}
use Rattle.std.proofs.lemmas.Iterator.{YieldsList-from_slice, YieldsList-from_map}
use Rattle.std.proofs.lemmas.Iterator.Consumers.{reduce_from_yields_List}
use Rattle.std.proofs.lemmas.List.Folds.{max_of_map}
use Rattle.load_metric.specs.declared.block.Block.{Block}
use Rattle.load_metric.proofs.Lowest.{highest_folded}
use Rattle.load_metric.proofs.load.highest.Goals as goal

pub returns : goal.returns
returns c =
    c.unwrap_or.ensures
    ∙ ap (λ r. unwrap_or r 0) (reduce_from_yields_List _ _ _ c.max.ensures.ran (YieldsList-from_map _ (λ b. b.kw) (YieldsList-from_slice c.args.blocks.now (search rules)) c.map.ensures.closure (λ b kw q called. search rules)))
    ∙ max_of_map (λ (b : Block). b.kw) c.args.blocks.now
    ∙ highest_folded _
