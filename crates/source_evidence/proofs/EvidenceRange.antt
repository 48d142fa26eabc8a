-- What is known of numbers that are those of an evidence. Assumes nothing.
use Prim.Native.Nat.{ℕ, ◌≤◌}
use mathlib.Core.Path.{◌≡◌}
use mathlib.Core.Bool.{true, false, ◌&&◌}
use lib.Dec.{leb}
use borrow.Author.Tests.{leb-true, ltb-false, not-false}
use Rattle.tariff.specs.Terms.{is_month}
use Rattle.source_evidence.specs.Evidence.{highest_right}
use Rattle.source_evidence.specs.Filing.{evidence_out_of_range}
use Rattle.tariff.specs.Ranges.{max_kw, within, kw_out_of_range, month_out_of_range}
use Rattle.tariff.proofs.Tests.{or_unmet, and_both}

pub within_bounds : (low high x : ℕ) → within low high x ≡ true → (low ≤ x) × (x ≤ high)
unfolding within
within_bounds low high x e = let both = and_both (leb low x) (leb x high) e in (leb-true low x both.0, leb-true x high both.1)

pub is_month_lem : (m : ℕ) → month_out_of_range m ≡ false → (1 ≤ m) × (m ≤ 3)
unfolding month_out_of_range is_month
is_month_lem m e = let both = and_both (leb 1 m) (leb m 3) (not-false (leb 1 m && leb m 3) e) in (leb-true 1 m both.0, leb-true m 3 both.1)

pub record EvidenceFacts (kind capacity right first last mark : ℕ) : Type 0 where
  pub kinds : (1 ≤ kind) × (kind ≤ 2)
  pub capacities : (1 ≤ capacity) × (capacity ≤ max_kw)
  pub rights : (1 ≤ right) × (right ≤ highest_right kind capacity)
  pub months : (1 ≤ first) × (first ≤ last) × (last ≤ 3)
  pub marks : mark ≤ 1

pub evidence_facts : (kind capacity right first last mark : ℕ) → evidence_out_of_range kind capacity right first last mark ≡ false → EvidenceFacts kind capacity right first last mark
unfolding evidence_out_of_range kw_out_of_range
evidence_facts kind capacity right first last mark e =
    let marks = or_unmet _ _ e in
    let order = or_unmet _ _ marks.0 in
    let last_month = or_unmet _ _ order.0 in
    let first_month = or_unmet _ _ last_month.0 in
    let right_range = or_unmet _ _ first_month.0 in
    let kind_range = or_unmet _ _ right_range.0 in
    record {
      kinds = within_bounds 1 2 kind (not-false _ kind_range.0);
      capacities = within_bounds 1 max_kw capacity (not-false _ kind_range.1);
      rights = within_bounds 1 (highest_right kind capacity) right (not-false _ right_range.1);
      months = ((is_month_lem first first_month.1).0, ltb-false _ _ order.1, (is_month_lem last last_month.1).1);
      marks = ltb-false _ _ marks.1;
    }
