-- `nominations::nominate::exceeds_prior` meets its contract: what is left stands in a slot of its own. Assumes nothing.
use mathlib.Core.Path.{refl}
use native.Mathlib.Omega.{arith}
use Rattle.ledger.specs.Causes.{exceeds_prior}
use Rattle.slots.specs.Layout.{ledger_in, prior_remaining_slot}
use Rattle.nominations.proofs.nominate.exceeds_prior.Goals as goal

pub returns : goal.returns
unfolding exceeds_prior ledger_in
returns c = c.exceeds_in_tier.ensures prior_remaining_slot 1 0 refl (omega arith)
