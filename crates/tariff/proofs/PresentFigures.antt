-- Laws of the present figures alone: the eligible quantities are 01's, and half the load is never the tighter in tier 1 (01, Limits; 02, 3/14). Assumes nothing.
use Prim.Native.Nat.{ℕ, ◌-◌, ◌*◌, ◌/◌, ◌≤◌, min}
use mathlib.Core.Path.{◌≡◌, refl, ap}
use mathlib.Core.Bool.{true}
use native.Mathlib.Nat.{one-mul}
use native.Mathlib.Omega.{arith}
use Rattle.tariff.specs.declared.limit.Sums.{Sums}
use Rattle.tariff.specs.Settings.{part_of, fraction_legal, settings_legal, fraction_at, settings_of, present_settings}
use Rattle.tariff.specs.Eligible.{seasonal_eligible, priority_eligible, eligible_without_evidence, eligible_with_evidence}
use Rattle.tariff.specs.Limit.{limit_tier1}

pub present_legal : settings_legal present_settings ≡ true
unfolding settings_legal fraction_legal present_settings settings_of fraction_at
present_legal = refl

module _ (load : ℕ) where
  pub present_seasonal : seasonal_eligible present_settings load ≡ 3 * load / 4
  unfolding seasonal_eligible part_of present_settings settings_of fraction_at
  present_seasonal = refl

  pub present_priority : priority_eligible present_settings load ≡ 2 * (3 * load / 4) / 3
  unfolding priority_eligible seasonal_eligible part_of present_settings settings_of fraction_at
  present_priority = refl

  pub present_without : eligible_without_evidence present_settings load ≡ load / 5
  unfolding eligible_without_evidence part_of present_settings settings_of fraction_at
  present_without = ap (λ x. x / 5) (one-mul load)

  pub present_with : eligible_with_evidence present_settings load ≡ load / 2
  unfolding eligible_with_evidence part_of present_settings settings_of fraction_at
  present_with = ap (λ x. x / 2) (one-mul load)

  -- P is never above half the load
  pub half_load_never_tighter : priority_eligible present_settings load ≤ eligible_with_evidence present_settings load
  half_load_never_tighter = let p = present_priority in let h = present_with in omega arith

-- so tier 1's limit is the lesser of two, as 01 has it
pub present_tier_1 : (s : Sums) → limit_tier1 present_settings s ≡ min (priority_eligible present_settings s.load - s.carried) (s.prior - s.carried)
unfolding limit_tier1
present_tier_1 s = let never = half_load_never_tighter s.load in omega arith
