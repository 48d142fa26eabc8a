-- `nomination_tests::nomination::Nomination::needs_ten_year` meets its contract: an OBAALSE needs it, another holder above what the step gives of its load without it. Assumes nothing.
use mathlib.Core.Path.{refl}
use native.Mathlib.Omega.{arith}
use Rattle.slots.proofs.Reachable.{settings_known}
use Rattle.slots.proofs.Figures.{summable}
use Rattle.tier_limits.proofs.EvidenceSlots.{source_cell}
use Rattle.nomination_tests.proofs.NominateCauses.{base_kept, base_place, base_room, base_fits}
use Rattle.nomination_tests.proofs.StepCauses.{above_without}
use Rattle.nomination_tests.proofs.nomination.Nomination.needs_ten_year.Goals as goal

pub path_base-base-requires : goal.path_base-base-requires
path_base-base-requires c = base_kept c.self.invariant

pub read-load-requires : goal.read-load-requires
read-load-requires c = let k = c.self.invariant in source_cell _ _ _ _ k.figures.reachable _ _ k.holder (base_place k _ c.path_base-base.ensures) _ (omega arith)

pub sum_at_base-nominated-requires : goal.sum_at_base-nominated-requires
sum_at_base-nominated-requires c = let k = c.self.invariant in summable _ _ _ _ k.figures.reachable _ _ k.holder (omega arith)

pub sum_at_base-carried-requires : goal.sum_at_base-carried-requires
sum_at_base-carried-requires c = let k = c.self.invariant in summable _ _ _ _ k.figures.reachable _ _ k.holder (omega arith)

pub legal_settings-requires : goal.legal_settings-requires
legal_settings-requires c = let k = c.self.invariant in settings_known _ _ _ _ k.figures.reachable refl

pub overflow_add-result : goal.overflow_add-result
overflow_add-result c = let k = c.self.invariant in record { fits = base_room _ _ _ _ k.figures.reachable _ k.holder _ _ _ k.high c.sum_at_base-nominated.ensures }

pub overflow_add-result-2 : goal.overflow_add-result-2
overflow_add-result-2 c =
    let k = c.self.invariant in
    let r = k.figures.reachable in
    let nominated = base_fits _ _ _ _ r _ k.holder _ _ _ (omega arith) c.sum_at_base-nominated.ensures in
    let carried = base_fits _ _ _ _ r _ k.holder _ _ _ (omega arith) c.sum_at_base-carried.ensures in
    let high = k.high in
    omega arith

pub returns : goal.returns
returns c =
    rw (← c.self.view_is, ← c.path_base-base.ensures) (λ m x r.
    let k = c.self.invariant in
    above_without _ _ m x r _ _ _ _ _ _ _ _ k.holder (base_place k _ c.path_base-base.ensures) (grind (arith)) c.read-load.ensures c.sum_at_base-nominated.ensures c.sum_at_base-carried.ensures c.legal_settings.ensures c.eligible_without_evidence.ensures)
