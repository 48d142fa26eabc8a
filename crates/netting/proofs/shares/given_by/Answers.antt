-- `netting::shares::given_by` meets its contract: the iterator gives what the holder gives, and the sum fits. Assumes nothing.
use Rattle.std.proofs.Common.{◌+◌, ◌*◌, get_or, refl, rules}
use native.Mathlib.Nat.{le_refl}
use Rattle.tariff.proofs.CountedSums.{counted_fits, counted_sum}
use Rattle.netting.specs.Netting.{pair_at}
use Rattle.netting.proofs.shares.given_by.Goals as goal

pub sum-requires-clause-fits : goal.sum-requires-clause-fits
unfolding pair_at
sum-requires-clause-fits c =
    let a = c.args in
    counted_fits {value = λ j. get_or a.parts.now (a.holder * 8 + j) 0} c.map.ensures.source refl (le_refl _) c.requires.2 (λ j v q called. search rules)

pub returns : goal.returns
unfolding pair_at
returns c = counted_sum c.map.ensures.source refl c.sum.ensures.ran (λ j v q called. search rules)
