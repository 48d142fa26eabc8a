-- `tier_limits::limits::sum_paths` meets its contract: the iterator takes the sums from path to path. Assumes nothing.
use Rattle.std.proofs.Common.{refl, arith, rules}
use Rattle.tariff.proofs.CountedFold.{fold_can, fold_is}
use Rattle.records.specs.Opening.{opening_in}
use Rattle.ledger.specs.Opening.{path_base}
use Rattle.slots.proofs.PathSums.{base_inputs}
use Rattle.tier_limits.specs.PathSums.{sums_to}
use Rattle.tier_limits.proofs.PathSumLaws.{sums_none, sums_more, path_fits}
use Rattle.tier_limits.proofs.limits.sum_paths.Goals as goal

pub fold-requires-clause-callable : goal.fold-requires-clause-callable
fold-requires-clause-callable c =
    let a = c.args in
    let O = opening_in a.o.now in
    fold_can (sums_to O a.f.now a.h a.base a.slots) refl c.paths.ensures (sums_none _ _ _ _ _ c.default.result (search rules))
    (λ p sums next q called. (search rules, λ is. sums_more _ _ _ _ _ _ (path_base O p) _ _ (search rules) refl is))
    (λ p sums past is.
    let inputs = base_inputs _ _ _ _ (c.requires.each 0 (omega arith)) p past in
    let fits = path_fits _ _ _ a.base _ c.requires p sums past is in
    search rules)

pub returns : goal.returns
returns c =
    let a = c.args in
    let O = opening_in a.o.now in
    fold_is (sums_to O a.f.now a.h a.base a.slots) refl c.paths.ensures (sums_none _ _ _ _ _ c.default.result (search rules))
    (λ p sums next q called. (search rules, λ is. sums_more _ _ _ _ _ _ (path_base O p) _ _ (search rules) refl is)) c.fold.ensures.ran
