-- `tier_limits::ten_year::ten_year_in` meets its contract, by the test on the tier. Assumes nothing.
use mathlib.Core.Path.{◌∙◌}
use Rattle.tier_limits.proofs.TenYearLaws.{step_takes, tier_takes_none}
use Rattle.tier_limits.proofs.ten_year.ten_year_in.Goals as goal

pub returns-then-tier-ne-LONG_TERM_STEP : goal.returns-then-tier-ne-LONG_TERM_STEP
returns-then-tier-ne-LONG_TERM_STEP c m x r = tier_takes_none _ _ c.if-tier-ne-LONG_TERM_STEP.true

pub returns : goal.returns
returns c m x r = c.ten_year_sum.ensures m x r ∙ step_takes _ _ c.if-tier-ne-LONG_TERM_STEP.false
