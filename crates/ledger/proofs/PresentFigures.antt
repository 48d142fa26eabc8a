-- The law of the present figures. Assumes nothing.
use Prim.Native.Nat.{ℕ, ◌-◌, ◌*◌, ◌/◌, ◌≤◌, min}
use mathlib.Core.Path.{◌≡◌, ap, ◌∙◌, subst}
use mathlib.Core.Bool.{cond}
use mathlib.Core.List.{List}
use native.Mathlib.Nat.{one-mul}
use lib.Dec.{ltb}
use Rattle.tariff.specs.declared.limit.Sums.{Sums}
use Rattle.tariff.specs.Settings.{part_of, fraction_at, settings_of, present_settings}
use Rattle.tariff.specs.Eligible.{priority_eligible}
use Rattle.tariff.specs.Limit.{limit_tier2, limit_tier3, eligible_by_evidence, long_term_of_lse, long_term_eligible, limit_long_term, limit_of_sums}
use Rattle.tariff.proofs.Limits.{limit_one, limit_two, limit_three, limit_long_term_lem}
use Rattle.tariff.proofs.PresentFigures.{present_seasonal, present_priority, present_without, present_with, half_load_never_tighter, present_tier_1}
use Rattle.load_metric.specs.declared.block.Block.{Block}
use Rattle.load_metric.specs.Load.{present_hours, missing_hours, too_many_missing, exceedance_hours, smallest_within, metric}
use Rattle.ledger.specs.PresentFigures.{PresentFigures}

tier_1 : (s : Sums) → limit_of_sums present_settings 1 s ≡ min (2 * (3 * s.load / 4) / 3 - s.carried) (s.prior - s.carried)
tier_1 s = limit_one present_settings s ∙ present_tier_1 s ∙ ap (λ p. min (p - s.carried) (s.prior - s.carried)) (present_priority s.load)

tier_2 : (s : Sums) → limit_of_sums present_settings 2 s ≡ 2 * (3 * s.load / 4) / 3 - s.tier1 - s.carried
unfolding limit_tier2
tier_2 s = limit_two present_settings s ∙ ap (λ p. p - s.tier1 - s.carried) (present_priority s.load)

tier_3 : (s : Sums) → limit_of_sums present_settings 3 s ≡ 3 * s.load / 4 - s.tier1 - s.tier2 - s.carried
unfolding limit_tier3
tier_3 s = limit_three present_settings s ∙ ap (λ p. p - s.tier1 - s.tier2 - s.carried) (present_seasonal s.load)

long_term_lem : (s : Sums) → limit_of_sums present_settings 10 s ≡ cond s.obaalse (s.load / 2) (cond (ltb (s.load / 5) s.ten_year_kw) (min s.ten_year_kw (s.load / 2)) (s.load / 5)) - s.carried
unfolding limit_long_term long_term_eligible long_term_of_lse eligible_by_evidence
long_term_lem s =
    limit_long_term_lem present_settings s
    ∙ (λ i. cond s.obaalse (present_with s.load i) (cond (ltb (present_without s.load i) s.ten_year_kw) (min s.ten_year_kw (present_with s.load i)) (present_without s.load i)) - s.carried)

metric_of_lem : (bs : List Block) → metric present_settings bs ≡ smallest_within (present_hours bs / 200) bs
unfolding metric exceedance_hours part_of present_settings settings_of fraction_at
metric_of_lem bs = ap (λ n. smallest_within (n / 200) bs) (one-mul (present_hours bs))

missing_of : (n : ℕ) (bs : List Block) → too_many_missing present_settings n bs ≡ ltb n (missing_hours n bs * 50)
unfolding too_many_missing present_settings settings_of fraction_at
missing_of n bs = ap (λ k. ltb k (missing_hours n bs * 50)) (one-mul n)

pub present_figures : PresentFigures
present_figures =
    record {
      seasonal = present_seasonal;
      priority = present_priority;
      without_evidence = present_without;
      with_evidence = present_with;
      half_never_tighter = λ load. subst (λ h. priority_eligible present_settings load ≤ h) (present_with load) (half_load_never_tighter load);
      tier1 = tier_1;
      tier2 = tier_2;
      tier3 = tier_3;
      long_term = long_term_lem;
      metric_of = metric_of_lem;
      missing = missing_of;
    }
