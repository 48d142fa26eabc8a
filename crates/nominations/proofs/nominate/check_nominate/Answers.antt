-- `nominations::nominate::check_nominate` meets its contract: what meets none of the first causes is a nomination in the book. Assumes nothing.
use Rattle.slots.proofs.TierCallLaws.{tier_call_names}
use Rattle.nominations.proofs.nominate.check_nominate.Goals as goal

pub invariant_of-check_in_tier : goal.invariant_of-check_in_tier
invariant_of-check_in_tier c =
    let known = tier_call_names _ _ _ _ _ (c.in_ok-check_tier_call.ensures.nominate _ _ c.requires.reachable) in
    record { figures = c.requires; holder = known.0; path = known.1; high = known.2 }
