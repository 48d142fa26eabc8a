-- Nothing goes to, comes from or is awarded at a place that is not in the book. Assumes nothing.
use Prim.Native.Nat.{ℕ, ◌*◌, ◌≤◌, ◌<◌}
use mathlib.Core.Path.{◌≡◌, refl}
use mathlib.Core.Bool.{true, false, ◌&&◌, ◌||◌}
use mathlib.Core.List.{List, [], ◌∷◌}
use mathlib.Core.Logic.{◌⊎◌, inl, inr}
use native.Mathlib.Omega.{arith}
use lib.Dec.{leb, eqb}
use borrow.Author.Tests.{leb-false, ne_eqb}
use Rattle.netting.specs.declared.netting.ClassLine.{ClassLine}
use Rattle.tariff.specs.Sum.{sum_over, any_of}
use Rattle.tariff.specs.Terms.{term_of, has_month, entering_kw}
use Rattle.netting.specs.Migration.{watts_one_way, netted}
use Rattle.tariff.proofs.Sums.{when_is_false, sum_zero}
use Rattle.tariff.proofs.Tests.{or_unmet, and_left_false, and_right_false}
use Rattle.ledger.specs.Opening.{Opening}
use Rattle.ledger.specs.Ledger.{Ledger, empty_ledger}
use Rattle.ledger.specs.Ranges.{unknown_holder, unknown_holder_in}
use Rattle.ledger.specs.Call.{Call, load, carry, prior, verify, migrate, open_tier, nominate, award, close_tier}
use Rattle.ledger.specs.Season.{accepted, after}
use Rattle.ledger.specs.Totals.{contribution, no_contribution}
use Rattle.ledger.proofs.Steps.{step_keeps, after_keeps}
use Rattle.ledger.proofs.TierFacts.{award_facts}
use Rattle.ledger.proofs.Conserved.{awarded_sum, awarded_adds}

-- lines that name no unknown holder have no watts from one or to one
watts_outside : (o : Opening) (i j : ℕ) → (o.holders ≤ i) ⊎ (o.holders ≤ j) → (lines : List ClassLine) → unknown_holder_in o lines ≡ false → watts_one_way lines i j ≡ 0
unfolding watts_one_way sum_over unknown_holder_in any_of unknown_holder
watts_outside o i j past [] e = refl
watts_outside o i j past (l ∷ ls) e =
    let both = or_unmet (leb o.holders l.from || leb o.holders l.to) (any_of ls (λ l. leb o.holders l.from || leb o.holders l.to)) e in
    let known = or_unmet (leb o.holders l.from) (leb o.holders l.to) both.0 in
    let own = when_is_false (l.customers * l.watts) (other past (leb-false o.holders l.from known.0) (leb-false o.holders l.to known.1)) in
    let rest = watts_outside o i j past ls both.1 in
    omega arith
  where
    other : (o.holders ≤ i) ⊎ (o.holders ≤ j) → l.from < o.holders → l.to < o.holders → (eqb l.from i && eqb l.to j) ≡ false
    other (inl a) x y = and_left_false (eqb l.to j) (ne_eqb l.from i (λ s. omega (arith, s)))
    other (inr a) x y = and_right_false (eqb l.from i) (ne_eqb l.to j (λ s. omega (arith, s)))

pub netted_outside : (o : Opening) (lines : List ClassLine) (i j : ℕ) → unknown_holder_in o lines ≡ false → (o.holders ≤ i) ⊎ (o.holders ≤ j) → netted lines i j ≡ 0
unfolding netted
netted_outside o lines i j known past = let none = watts_outside o i j past lines known in omega arith

module _ (o : Opening) (p m : ℕ) (past : o.paths ≤ p) where
  -- no call awards anything on a path that is not in the book
  none-awarded : (L : Ledger) (c : Call) → accepted o L c ≡ true → (contribution o L c).awarded p m ≡ 0
  unfolding contribution no_contribution
  none-awarded L (load h s term contract n blocks) e = refl
  none-awarded L (carry h q kw) e = refl
  none-awarded L (prior h q a l) e = refl
  none-awarded L (verify h s kind capacity right first last mark) e = refl
  none-awarded L (migrate term sink lines) e = refl
  none-awarded L (open_tier tier) e = refl
  none-awarded L (nominate h q kw) e = refl
  none-awarded L (award h q kw) e =
      let l = (award_facts o L h q kw e).path in
      when_is_false (entering_kw L.tiers.current_tier kw) (and_left_false (has_month (term_of L.tiers.current_tier) m) (ne_eqb p q (λ s. omega (arith, s))))
  none-awarded L close_tier e = refl

  pub awarded_outside : (cs : List Call) → awarded_sum o p m (after o cs) ≡ 0
  unfolding awarded_sum empty_ledger
  awarded_outside =
      after_keeps (λ L. awarded_sum o p m L ≡ 0) o
      (λ L c k. step_keeps (λ L. awarded_sum o p m L ≡ 0) o L c k (λ e. let a = awarded_adds o p m L c e in let b = none-awarded L c e in omega arith))
      (sum_zero o.holders (λ h l. refl))
