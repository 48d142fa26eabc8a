-- A call that is accepted meets none of its causes: from the refusal 0 to the row, and from the row's test to its fact. Assumes nothing.
use Prim.Native.Nat.{ℕ, suc, ◌≤◌, ◌<◌}
use mathlib.Core.Path.{◌≡◌, refl}
use mathlib.Core.Bool.{Bool, true, false, not, ◌&&◌}
use mathlib.Core.List.{List, ◌∷◌}
use native.Mathlib.Omega.{arith}
use lib.Dec.{ltb, eqb}
use borrow.Author.Tests.{ltb-true, eqb-true, eqb-false, not-true, not-false}
use Rattle.tariff.proofs.Tests.{and_both}
use Rattle.source_evidence.proofs.EvidenceRange.{within_bounds}
use Rattle.ledger.specs.Opening.{Opening}
use Rattle.ledger.specs.Ledger.{Ledger}
use Rattle.ledger.specs.Call.{Call}
use Rattle.ledger.specs.Numbers.{Cause, cause, first_met}
use Rattle.tariff.specs.Ranges.{within, kw_out_of_range, max_kw}
use Rattle.ledger.specs.Calendar.{tier_is_open, before_tier}
use Rattle.ledger.specs.Causes.{refusal, call_causes}
use Rattle.ledger.specs.Season.{accepted}

-- where no cause of a list is met, its first is not, and none of the later ones is
pub unmet : (n : ℕ) (met : Bool) (later : List Cause) → first_met (cause (suc n) met ∷ later) ≡ 0 → (met ≡ false) × (first_met later ≡ 0)
unfolding first_met
unmet n true later e = absurd (let z : ⊥ = omega (arith, e) in z)
unmet n false later e = (refl, e)

pub accepted_zero : (o : Opening) (L : Ledger) (c : Call) → accepted o L c ≡ true → first_met (call_causes o L c) ≡ 0
unfolding accepted refusal
accepted_zero o L c e = eqb-true (first_met (call_causes o L c)) 0 e

pub is_within : (low high x : ℕ) → not (within low high x) ≡ false → (low ≤ x) × (x ≤ high)
is_within low high x e = within_bounds low high x (not-false _ e)

pub kw_in_range : (kw : ℕ) → kw_out_of_range kw ≡ false → (1 ≤ kw) × (kw ≤ max_kw)
unfolding kw_out_of_range
kw_in_range kw e = is_within 1 max_kw kw e

-- a tier is open: the number of the open one is not 0
pub open_number : (L : Ledger) → not (tier_is_open L) ≡ false → 1 ≤ L.tiers.current_tier
unfolding tier_is_open
open_number L e =
    let ne = eqb-false L.tiers.current_tier 0 (not-true (eqb L.tiers.current_tier 0) (not-false (not (eqb L.tiers.current_tier 0)) e)) in
    omega (arith, ne)

pub none_open : (L : Ledger) → tier_is_open L ≡ false → L.tiers.current_tier ≡ 0
unfolding tier_is_open
none_open L e = eqb-true L.tiers.current_tier 0 (not-false (eqb L.tiers.current_tier 0) e)

pub before_tier_lem : (tier : ℕ) (L : Ledger) → not (before_tier tier L) ≡ false → (L.tiers.current_tier ≡ 0) × (L.tiers.last_closed < tier)
unfolding before_tier
before_tier_lem tier L e =
    let both = and_both (not (tier_is_open L)) (ltb L.tiers.last_closed tier) (not-false (not (tier_is_open L) && ltb L.tiers.last_closed tier) e) in
    (none_open L (not-true (tier_is_open L) both.0), ltb-true L.tiers.last_closed tier both.1)
