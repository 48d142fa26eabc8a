-- `nominations::nominate::exceeds_limit` meets its contract. Assumes nothing.
use native.Mathlib.Omega.{arith}
use Rattle.slots.proofs.Figures.{summable}
use Rattle.tier_limits.proofs.LimitLaws.{open_last_lem}
use Rattle.nomination_tests.proofs.NominateCauses.{base_kept, base_place, base_room, limit_test}
use Rattle.nominations.proofs.nominate.exceeds_limit.Goals as goal

pub path_base-base-requires : goal.path_base-base-requires
path_base-base-requires c = base_kept c.n.invariant

pub tier_limit-limit-requires : goal.tier_limit-limit-requires
tier_limit-limit-requires c =
    let k = c.n.invariant in
    record {
      figures = k.figures;
      last = open_last_lem _ _ _ _ k.figures.reachable _ c.current_tier.ensures;
      holder = k.holder;
      place = base_place k _ c.path_base-base.ensures;
    }

pub sum_at_base-requires : goal.sum_at_base-requires
sum_at_base-requires c = summable _ _ _ _ c.n.invariant.figures.reachable _ _ c.n.invariant.holder (omega arith)

pub overflow_add-wanted : goal.overflow_add-wanted
overflow_add-wanted c = let k = c.n.invariant in record { fits = base_room _ _ _ _ k.figures.reachable _ k.holder _ _ _ k.high c.sum_at_base.ensures }

pub returns : goal.returns
returns c = rw (← c.n.view_is) (λ m x r. limit_test _ _ m x _ _ _ c.n.invariant r _ _ _ _ c.current_tier.ensures c.path_base-base.ensures (c.tier_limit-limit.ensures m x r) c.sum_at_base.ensures)
