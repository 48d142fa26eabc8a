-- `tier_limits::limits::tier_limit` meets its contract. Assumes nothing.
use mathlib.Core.Path.{refl, ◌∙◌}
use Rattle.tariff.specs.Limit.{limit_of_sums}
use Rattle.ledger.specs.Limits.{tier_limit}
use Rattle.slots.proofs.Reachable.{settings_known}
use Rattle.tier_limits.proofs.limits.tier_limit.Goals as goal

pub legal_settings-requires : goal.legal_settings-requires
legal_settings-requires c = settings_known _ _ _ _ c.requires.figures.reachable refl

pub returns : goal.returns
unfolding tier_limit
returns c m x r =
    let tier = c.args.tier in
    c.limit_of_sums.ensures ∙ (λ i. limit_of_sums (c.legal_settings.ensures i) tier (c.limit_sums-sums.ensures m x r i))
