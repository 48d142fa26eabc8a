-- `migrate::migrate::loss_exceeds_load` meets its contract: the search ends at the first holder who gives more than its load. Assumes nothing.
use Rattle.std.proofs.Common.{ℕ, rules}
use lib.Dec.{ltb}
use Rattle.tariff.specs.Sum.{sum_to}
use Rattle.tariff.proofs.Counted.{any_counted}
use Rattle.netting.specs.Netting.{pair_at, holder_at}
use Rattle.migrate.proofs.migrate.loss_exceeds_load.Goals as goal

pub returns : goal.returns
unfolding holder_at
returns c =
    let x = c.args.x in
    any_counted (λ (i : ℕ). ltb (holder_at x.load i) (sum_to x.holders (λ j. pair_at x.m i j))) _ _ c.any.ensures.ran (λ k b q called. search rules)
