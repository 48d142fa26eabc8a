-- `nomination_tests::long_term_step::needs_evidence_at` meets its contract. Assumes nothing.
use native.Mathlib.Nat.{le_trans}
use native.Mathlib.Omega.{arith}
use mathlib.Core.Path.{refl}
use borrow.Author.Tests.{eq-eqb, ne_eqb}
use Rattle.tariff.proofs.Tests.{and_after_true, and_after_false}
use Rattle.slots.proofs.Reachable.{bases_known, counts}
use Rattle.nomination_tests.proofs.StepCauses.{needed_here, needed_there}
use Rattle.nomination_tests.proofs.long_term_step.needs_evidence_at.Goals as goal

pub returns-then-q-p : goal.returns-then-q-p
returns-then-q-p c m x r = needed_here _ _ m x _ _ _ _ c.if-q-p.true

pub path_base-requires : goal.path_base-requires
path_base-requires c = let k = c.requires in (bases_known _ _ _ _ k.figures.reachable, le_trans k.second (counts _ _ _ _ k.figures.reachable).3)

pub path_base-requires-2 : goal.path_base-requires-2
path_base-requires-2 c = let k = c.requires in (bases_known _ _ _ _ k.figures.reachable, le_trans k.first (counts _ _ _ _ k.figures.reachable).3)

pub read-requires : goal.read-requires
read-requires c =
    let k = c.requires in
    let few = counts _ _ _ _ k.figures.reachable in
    record { holder = le_trans k.holder few.0; place = le_trans k.second few.3; in_row = omega arith }

pub returns-then-path_base : goal.returns-then-path_base
returns-then-path_base c m x r =
    let k = c.requires in
    let few = counts _ _ m x r in
    and_after_true (eq-eqb _ _ c.if-path_base.true) (needed_there _ _ m x _ _ _ _ _ _ (le_trans k.holder few.0) (le_trans k.second few.3) c.if-q-p.false c.path_base.ensures c.path_base-2.ensures c.read.ensures)

pub returns-else-path_base : goal.returns-else-path_base
returns-else-path_base c m x r =
    let k = c.requires in
    let few = counts _ _ m x r in
    and_after_false _ (ne_eqb _ _ c.if-path_base.false) (needed_there _ _ m x _ _ _ _ _ _ (le_trans k.holder few.0) (le_trans k.second few.3) c.if-q-p.false c.path_base.ensures c.path_base-2.ensures refl)
