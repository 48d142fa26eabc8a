-- `nomination_tests::nomination::Nomination::exceeds_in_tier` meets its contract. Assumes nothing.
use native.Mathlib.Omega.{arith}
use borrow.Author.Tests.{eq-eqb, ne_eqb}
use Rattle.tariff.proofs.Tests.{and_after_true, and_after_false}
use Rattle.slots.specs.Layout.{nominated_slot}
use Rattle.nomination_tests.proofs.NominateCauses.{path_cell, path_room, tier_test}
use Rattle.nomination_tests.proofs.nomination.Nomination.exceeds_in_tier.Goals as goal

pub read-figure-requires : goal.read-figure-requires
read-figure-requires c = let k = c.self.invariant in path_cell _ _ _ _ _ _ _ k k.figures.reachable _ c.requires

pub read-requires : goal.read-requires
read-requires c = let k = c.self.invariant in path_cell _ _ _ _ _ _ _ k k.figures.reachable _ (omega arith)

pub overflow_add-wanted : goal.overflow_add-wanted
overflow_add-wanted c = let k = c.self.invariant in record { fits = path_room _ _ _ _ _ _ _ k k.figures.reachable nominated_slot _ (omega arith) c.read.ensures }

pub returns-then-current_tier-tier : goal.returns-then-current_tier-tier
returns-then-current_tier-tier c =
    rw (← c.self.view_is) (λ from count k e l m x r. and_after_true (eq-eqb _ _ c.if-current_tier-tier.true) (tier_test _ _ m x _ _ _ c.self.invariant r _ _ _ _ _ from count k c.current_tier.ensures c.read-figure.ensures c.read.ensures e l))

pub returns-else-current_tier-tier : goal.returns-else-current_tier-tier
returns-else-current_tier-tier c =
    rw (← c.self.view_is) (λ from count k e l m x r. and_after_false _ (ne_eqb _ _ c.if-current_tier-tier.false) (tier_test _ _ m x _ _ _ c.self.invariant r _ _ _ _ _ from count k c.current_tier.ensures c.read-figure.ensures c.read.ensures e l))
