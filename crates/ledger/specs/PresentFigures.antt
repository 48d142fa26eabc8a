-- What the present figures give (01; 02, 3/14): without a set line the limits, the metric and cause 7 are those of 01 and of 02, 1/14, with their own numbers.
use Rattle.std.specs.Prelude.{ℕ, ◌-◌, ◌*◌, ◌/◌, ◌≤◌, min, ◌≡◌, cond, List, ltb}
use Rattle.tariff.specs.declared.limit.Sums.{Sums}
use Rattle.tariff.specs.Settings.{present_settings}
use Rattle.tariff.specs.Eligible.{seasonal_eligible, priority_eligible, eligible_without_evidence, eligible_with_evidence}
use Rattle.tariff.specs.Limit.{limit_of_sums}
use Rattle.tariff.specs.Sizes.{long_term_step}
use Rattle.load_metric.specs.declared.block.Block.{Block}
use Rattle.load_metric.specs.Load.{present_hours, missing_hours, too_many_missing, smallest_within, metric}

pub record PresentFigures : Type 0 where
  pub seasonal : (load : ℕ) → seasonal_eligible present_settings load ≡ 3 * load / 4
  pub priority : (load : ℕ) → priority_eligible present_settings load ≡ 2 * (3 * load / 4) / 3
  pub without_evidence : (load : ℕ) → eligible_without_evidence present_settings load ≡ load / 5
  pub with_evidence : (load : ℕ) → eligible_with_evidence present_settings load ≡ load / 2
  -- half the load is never the tighter cap of tier 1 (01, Limits): this is a law of the present figures alone
  pub half_never_tighter : (load : ℕ) → priority_eligible present_settings load ≤ load / 2
  -- so the limits of the season are those of 01, and the step's that of 02, 1/14; the month tiers have no fraction
  pub tier1 : (s : Sums) → limit_of_sums present_settings 1 s ≡ min (2 * (3 * s.load / 4) / 3 - s.carried) (s.prior - s.carried)
  pub tier2 : (s : Sums) → limit_of_sums present_settings 2 s ≡ 2 * (3 * s.load / 4) / 3 - s.tier1 - s.carried
  pub tier3 : (s : Sums) → limit_of_sums present_settings 3 s ≡ 3 * s.load / 4 - s.tier1 - s.tier2 - s.carried
  pub long_term : (s : Sums) → limit_of_sums present_settings long_term_step s ≡ cond s.obaalse (s.load / 2) (cond (ltb (s.load / 5) s.ten_year_kw) (min s.ten_year_kw (s.load / 2)) (s.load / 5)) - s.carried
  -- the metric is exceeded in at most 1 in 200 of the present hours, and 7 is met where 50 times the missing hours exceed n
  pub metric_of : (bs : List Block) → metric present_settings bs ≡ smallest_within (present_hours bs / 200) bs
  pub missing : (n : ℕ) (bs : List Block) → too_many_missing present_settings n bs ≡ ltb n (missing_hours n bs * 50)
