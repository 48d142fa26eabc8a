-- `awards::award::check_award` meets its contract: there is room to add the kW where it looks at the nominations. Assumes nothing.
use native.Mathlib.Omega.{arith}
use Rattle.slots.proofs.TierCallLaws.{tier_call_names}
use Rattle.awards.proofs.RowRoom.{row_room}
use Rattle.awards.proofs.AwardLaws.{tier_within}
use Rattle.awards.proofs.award.check_award.Goals as goal

pub exceeds_nominated-requires : goal.exceeds_nominated-requires
exceeds_nominated-requires c =
    let r = c.requires.reachable in
    let known = tier_call_names _ _ _ _ _ (c.in_ok-check_tier_call.ensures.nominate _ _ r) in
    (c.current_tier.ensures, tier_within _ _ _ _ _ r c.current_tier.ensures, row_room _ _ _ _ _ _ _ _ _ r known.0 known.1 known.2 (omega arith))
