-- `nomination_tests::nomination::Nomination::exceeds_tier_1_award` meets its contract: the award stands in the slots of the awards. Assumes nothing.
use mathlib.Core.Path.{refl}
use native.Mathlib.Omega.{arith}
use Rattle.tariff.specs.Terms.{is_long_term_step}
use Rattle.ledger.specs.Causes.{exceeds_tier1_award}
use Rattle.slots.specs.Layout.{ledger_in, awards_slot, tier_slots}
use Rattle.nomination_tests.proofs.nomination.Nomination.exceeds_tier_1_award.Goals as goal

pub returns : goal.returns
unfolding exceeds_tier1_award is_long_term_step ledger_in
returns c = c.exceeds_in_tier.ensures awards_slot tier_slots 1 refl (omega arith)
