-- `awards::award::award` meets its contract: a refusal leaves the figures, and an accepted award adds what enters to the awarded rights, and its kW to the tier's awards. Assumes nothing.
use native.Mathlib.Omega.{arith}
use Rattle.std.proofs.lemmas.Result.{err_from_is_err_and}
use Rattle.slots.proofs.StepLaws.{steps_refused}
use Rattle.awards.proofs.AwardLaws.{tier_within, months_room, tier_room, award_steps}
use Rattle.awards.proofs.award.award.Goals as goal

pub returns-in_err-check_award : goal.returns-in_err-check_award
returns-in_err-check_award c = λ m x r. let p = err_from_is_err_and c.from_residual.result c.from_residual.ensures.1 in rw (p.1, p.2) (steps_refused _ _ m x _ _ (c.in_err-check_award.ensures m x r) r)

pub add_in_term-requires : goal.add_in_term-requires
add_in_term-requires c = let r = c.requires.reachable in months_room _ _ _ _ _ _ _ r (c.in_ok-check_award.ensures _ _ r) _ _ c.entering_kw.ensures

pub overflow_add-tier : goal.overflow_add-tier
overflow_add-tier c = let last = tier_within _ _ _ _ _ c.requires.reachable c.current_tier-tier.ensures in omega arith

pub add-requires : goal.add-requires
add-requires c = let r = c.requires.reachable in tier_room _ _ _ _ _ _ _ r (c.in_ok-check_award.ensures _ _ r) _ _ _ _ c.current_tier-tier.ensures c.add_in_term.ensures

pub returns : goal.returns
returns c = λ m x r. award_steps _ _ m x _ _ _ r (c.in_ok-check_award.ensures m x r) _ _ _ _ _ c.current_tier-tier.ensures c.term_of-term.ensures c.entering_kw.ensures c.add_in_term.ensures c.add.ensures
