-- `netting::netting::ClassLines::net` meets its contract: fit lines are summed and netted, and unfit ones give nothing. Assumes nothing.
use mathlib.Core.Path.{sym, ◌∙◌}
use Rattle.netting.proofs.NettedLines.{summable, netting_fit, netting_unfit}
use Rattle.netting.proofs.netting.ClassLines.net.Goals as goal

pub watts_of_pairs-requires : goal.watts_of_pairs-requires
watts_of_pairs-requires c = summable _ _ _ _ _ (sym c.fit.ensures ∙ c.if-not-fit.false)

pub returns-then-not-fit : goal.returns-then-not-fit
returns-then-not-fit c = netting_unfit _ _ _ _ _ (sym c.fit.ensures ∙ c.if-not-fit.true)

pub returns : goal.returns
returns c = netting_fit _ _ _ _ _ _ _ (sym c.fit.ensures ∙ c.if-not-fit.false) c.watts_of_pairs.ensures c.netted_pairs.ensures
