-- `opening::legality::paths_differ` meets its contract: no path passed so far is like an earlier one, and the first pair that is alike ends the search. Assumes nothing.
use Rattle.std.proofs.Common.{refl, sym, ap, ◌∙◌}
use Rattle.tariff.specs.Sum.{all_below, any_below}
use Rattle.tariff.proofs.Tests.{none_more}
use Rattle.ledger.specs.Opening.{path_new}
use Rattle.records.specs.Opening.{opening_in}
use Rattle.opening.proofs.LegalityLaws.{all_more, one_fails, like_none, like_earlier}
use Rattle.opening.proofs.legality.paths_differ.Goals as goal

pub pairs-init : goal.pairs-init
unfolding all_below
pairs-init c = (refl, refl)

pub loop-q-init : goal.loop-q-init
unfolding any_below
loop-q-init c = (c.pairs.invariant.0, refl)

pub loop-q-preserved : goal.loop-q-preserved
loop-q-preserved c = (c.loop-q.invariant.0, none_more _ _ c.loop-q.invariant.1 (sym c.paths_alike.ensures ∙ c.if-paths_alike.false))

pub pairs-preserved : goal.pairs-preserved
pairs-preserved c = (c.loop-q.invariant.0, all_more _ _ c.pairs.invariant.1 (like_none _ _ _ c.loop-q.auto.q-end c.loop-q-test.false c.loop-q.invariant.1))

pub returns-then-paths_alike : goal.returns-then-paths_alike
returns-then-paths_alike c = one_fails _ _ _ c.pairs-test.true (like_earlier _ _ _ c.loop-q-test.true (sym c.paths_alike.ensures ∙ c.if-paths_alike.true)) ∙ ap (λ n. all_below n (path_new (opening_in c.args.o.now))) c.paths-p-end.ensures
