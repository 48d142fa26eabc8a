-- Laws of the limit by tier, for every legal settings: it is at most the load, and it reads only earlier tiers. Assumes nothing.
use Prim.Native.Nat.{ℕ, ◌-◌, ◌%◌, ◌≤◌, ◌<◌, min}
use mathlib.Core.Path.{◌≡◌, refl, sym, ap, subst}
use mathlib.Core.Bool.{Bool, true, false, cond}
use native.Mathlib.Nat.{le_trans}
use native.Mathlib.Omega.{arith}
use lib.Dec.{leb, ltb, eqb}
use borrow.Author.Tests.{eqb-true, eqb-false, ne_eqb, leb-true, leb-false, le-leb, lt-leb}
use Rattle.tariff.specs.declared.settings.Settings.{Settings}
use Rattle.tariff.specs.declared.limit.Sums.{Sums}
use Rattle.tariff.specs.Ranges.{within}
use Rattle.tariff.specs.Settings.{settings_legal}
use Rattle.tariff.specs.Eligible.{seasonal_eligible, priority_eligible, eligible_without_evidence, eligible_with_evidence}
use Rattle.tariff.specs.Terms.{is_long_term_step}
use Rattle.tariff.specs.Limit.{limit_tier1, limit_tier2, limit_tier3, limit_even_tier, limit_odd_tier, eligible_by_evidence, long_term_of_lse, long_term_eligible, limit_long_term, limit_by, formula_of, limit_of_sums}
use Rattle.tariff.proofs.Fractions.{part_le, each_legal}

-- an eligible quantity is at most the load
module _ (settings : Settings) (e : settings_legal settings ≡ true) (load : ℕ) where
  pub seasonal_le : seasonal_eligible settings load ≤ load
  unfolding seasonal_eligible
  seasonal_le = part_le settings.seasonal (each_legal settings e).seasonal load

  pub priority_le : priority_eligible settings load ≤ load
  unfolding priority_eligible
  priority_le = le_trans (part_le settings.priority (each_legal settings e).priority (seasonal_eligible settings load)) seasonal_le

  without-le : eligible_without_evidence settings load ≤ load
  unfolding eligible_without_evidence
  without-le = part_le settings.without_evidence (each_legal settings e).without_evidence load

  with-le : eligible_with_evidence settings load ≤ load
  unfolding eligible_with_evidence
  with-le = part_le settings.with_evidence (each_legal settings e).with_evidence load

-- the limit by the tier's number, one law to a formula
pub limit_one : (settings : Settings) (s : Sums) → limit_of_sums settings 1 s ≡ limit_tier1 settings s
unfolding limit_of_sums limit_by formula_of within
limit_one settings s = refl

pub limit_two : (settings : Settings) (s : Sums) → limit_of_sums settings 2 s ≡ limit_tier2 settings s
unfolding limit_of_sums limit_by formula_of within
limit_two settings s = refl

pub limit_three : (settings : Settings) (s : Sums) → limit_of_sums settings 3 s ≡ limit_tier3 settings s
unfolding limit_of_sums limit_by formula_of within
limit_three settings s = refl

pub limit_long_term_lem : (settings : Settings) (s : Sums) → limit_of_sums settings 10 s ≡ limit_long_term settings s
unfolding limit_of_sums limit_by formula_of within is_long_term_step
limit_long_term_lem settings s = refl

pub limit_even : (settings : Settings) (tier : ℕ) (s : Sums) → 3 < tier → (tier ≡ 10 → ⊥) → eqb (tier % 2) 0 ≡ true → limit_of_sums settings tier s ≡ limit_even_tier s
unfolding limit_of_sums limit_by formula_of within is_long_term_step
limit_even settings tier s l step e = rw (ne_eqb tier 1 (λ q. omega (arith, q)), le-leb 2 tier (omega arith), lt-leb tier 3 l, ne_eqb tier 10 step, e)

pub limit_odd : (settings : Settings) (tier : ℕ) (s : Sums) → 3 < tier → (tier ≡ 10 → ⊥) → eqb (tier % 2) 0 ≡ false → limit_of_sums settings tier s ≡ limit_odd_tier s
unfolding limit_of_sums limit_by formula_of within is_long_term_step
limit_odd settings tier s l step e = rw (ne_eqb tier 1 (λ q. omega (arith, q)), le-leb 2 tier (omega arith), lt-leb tier 3 l, ne_eqb tier 10 step, e)

-- which formula a tier has
pub data TierCase : ℕ → Type 0 where
  first : TierCase 1
  second : TierCase 2
  third : TierCase 3
  long_term : TierCase 10
  even : (tier : ℕ) → 3 < tier → (tier ≡ 10 → ⊥) → eqb (tier % 2) 0 ≡ true → TierCase tier
  odd : (tier : ℕ) → 3 < tier → (tier ≡ 10 → ⊥) → eqb (tier % 2) 0 ≡ false → TierCase tier

pub tier_case : (tier : ℕ) → 1 ≤ tier → TierCase tier
tier_case tier low = by_three (leb tier 3) refl
  where
    month : 3 < tier → (tier ≡ 10 → ⊥) → (b : Bool) → eqb (tier % 2) 0 ≡ b → TierCase tier
    month l step true e = even tier l step e
    month l step false e = odd tier l step e

    above : 3 < tier → (b : Bool) → eqb tier 10 ≡ b → TierCase tier
    above l true e = subst TierCase (sym (eqb-true tier 10 e)) long_term
    above l false e = month l (eqb-false tier 10 e) (eqb (tier % 2) 0) refl

    at-two : tier ≤ 3 → (tier ≡ 1 → ⊥) → (b : Bool) → eqb tier 2 ≡ b → TierCase tier
    at-two l ne true e = subst TierCase (sym (eqb-true tier 2 e)) second
    at-two l ne false e = subst TierCase (let n2 = eqb-false tier 2 e in omega (arith, ne, n2)) third

    at_one : tier ≤ 3 → (b : Bool) → eqb tier 1 ≡ b → TierCase tier
    at_one l true e = subst TierCase (sym (eqb-true tier 1 e)) first
    at_one l false e = at-two l (eqb-false tier 1 e) (eqb tier 2) refl

    by_three : (b : Bool) → leb tier 3 ≡ b → TierCase tier
    by_three true e = at_one (leb-true tier 3 e) (eqb tier 1) refl
    by_three false e = above (leb-false tier 3 e) (eqb tier 10) refl

module _ (settings : Settings) (legal : settings_legal settings ≡ true) (s : Sums) where
  -- the step's share is at most the load
  long-term-le : long_term_eligible settings s ≤ s.load
  unfolding long_term_eligible long_term_of_lse eligible_by_evidence
  long-term-le = go s.obaalse (ltb (eligible_without_evidence settings s.load) s.ten_year_kw)
    where
      without : eligible_without_evidence settings s.load ≤ s.load
      without = without-le settings legal s.load

      most : eligible_with_evidence settings s.load ≤ s.load
      most = with-le settings legal s.load

      go : (obaalse above : Bool) → cond obaalse (eligible_with_evidence settings s.load) (cond above (min s.ten_year_kw (eligible_with_evidence settings s.load)) (eligible_without_evidence settings s.load)) ≤ s.load
      go true above = most
      go false true = omega (arith, most)
      go false false = without

  -- a limit is at most the load
  pub limit_le_load : (tier : ℕ) → 1 ≤ tier → limit_of_sums settings tier s ≤ s.load
  unfolding limit_tier1 limit_tier2 limit_tier3 limit_even_tier limit_odd_tier limit_long_term
  limit_le_load tier low = let seasonal = seasonal_le settings legal s.load in let priority = priority_le settings legal s.load in go seasonal priority (tier_case tier low)
    where
      go : {n : ℕ} → seasonal_eligible settings s.load ≤ s.load → priority_eligible settings s.load ≤ s.load → TierCase n → limit_of_sums settings n s ≤ s.load
      go seasonal priority first = rw (limit_one settings s) (omega arith)
      go seasonal priority second = rw (limit_two settings s) (omega arith)
      go seasonal priority third = rw (limit_three settings s) (omega arith)
      go seasonal priority long_term = let share = long-term-le in rw (limit_long_term_lem settings s) (omega arith)
      go seasonal priority (even tier l step e) = rw (limit_even settings tier s l step e) (omega arith)
      go seasonal priority (odd tier l step e) = rw (limit_odd settings tier s l step e) (omega arith)

-- the same sums, as far as a tier's limit reads them: awards of earlier tiers only
pub record SameBefore (tier : ℕ) (s u : Sums) : Type 0 where
  pub load : s.load ≡ u.load
  pub carried : s.carried ≡ u.carried
  pub prior : s.prior ≡ u.prior
  pub tier1 : 1 < tier → s.tier1 ≡ u.tier1
  pub tier2 : 2 < tier → s.tier2 ≡ u.tier2
  pub tier3 : 3 < tier → s.tier3 ≡ u.tier3
  pub before : s.before ≡ u.before
  pub ten_year : s.ten_year_kw ≡ u.ten_year_kw
  pub obaalse : s.obaalse ≡ u.obaalse

module _ (settings : Settings) (s u : Sums) where
  -- the step's limit rests on no tier
  long-term-same : {tier : ℕ} → SameBefore tier s u → limit_long_term settings s ≡ limit_long_term settings u
  unfolding limit_long_term long_term_eligible long_term_of_lse eligible_by_evidence
  long-term-same k =
      λ i.
      cond (k.obaalse i) (eligible_with_evidence settings (k.load i)) (cond (ltb (eligible_without_evidence settings (k.load i)) (k.ten_year i)) (min (k.ten_year i) (eligible_with_evidence settings (k.load i))) (eligible_without_evidence settings (k.load i)))
      - k.carried i

  -- a tier's limit rests on earlier tiers alone
  pub limit_reads_before : (tier : ℕ) → 1 ≤ tier → SameBefore tier s u → limit_of_sums settings tier s ≡ limit_of_sums settings tier u
  unfolding limit_tier1 limit_tier2 limit_tier3 limit_even_tier limit_odd_tier
  limit_reads_before tier low same = go (tier_case tier low) same
    where
      go : {n : ℕ} → TierCase n → SameBefore n s u → limit_of_sums settings n s ≡ limit_of_sums settings n u
      go first k =
          rw (limit_one settings s, limit_one settings u)
          (λ i. min (min (priority_eligible settings (k.load i) - k.carried i) (k.prior i - k.carried i)) (eligible_with_evidence settings (k.load i) - k.carried i))
      go second k = let p = ap (priority_eligible settings) k.load in rw (limit_two settings s, limit_two settings u) (omega (arith, k.tier1 (omega arith)))
      go third k =
          let p = ap (seasonal_eligible settings) k.load in
          rw (limit_three settings s, limit_three settings u) (omega (arith, k.tier1 (omega arith), k.tier2 (omega arith)))
      go long_term k = rw (limit_long_term_lem settings s, limit_long_term_lem settings u) (long-term-same k)
      go (even tier l step e) k = rw (limit_even settings tier s l step e, limit_even settings tier u l step e) (omega (arith, k.tier1 (omega arith), k.tier2 (omega arith), k.tier3 l))
      go (odd tier l step e) k = rw (limit_odd settings tier s l step e, limit_odd settings tier u l step e) (omega (arith, k.tier1 (omega arith), k.tier2 (omega arith), k.tier3 l))
