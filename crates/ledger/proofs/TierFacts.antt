-- What is known of a migrate, open, nominate, award or close that is accepted: what each cause that it does not meet rules out. Assumes nothing.
use Prim.Native.Nat.{ℕ, suc, ◌+◌, ◌≤◌, ◌<◌}
use mathlib.Core.Path.{◌≡◌, refl}
use mathlib.Core.Bool.{Bool, true, false, cond, not, ◌&&◌, ◌||◌}
use mathlib.Core.List.{List}
use mathlib.Core.Logic.{◌⊎◌, inl, inr}
use native.Mathlib.Omega.{arith}
use lib.ListN.{length}
use lib.Dec.{leb, eqb}
use borrow.Author.Tests.{ltb-false, leb-true, leb-false, eq-eqb, eqb-true, eqb-false, not-true, not-false}
use Rattle.netting.specs.declared.netting.ClassLine.{ClassLine}
use Rattle.tariff.specs.Sum.{any_of}
use Rattle.tariff.specs.Terms.{first_tier_of, is_long_term_step}
use Rattle.netting.specs.Migration.{netted, lost_by}
use Rattle.tariff.proofs.Tests.{or_unmet, and_both, none_below}
use Rattle.ledger.specs.Opening.{Opening, path_sink, path_base}
use Rattle.ledger.specs.Ledger.{Ledger}
use Rattle.ledger.specs.Call.{migrate, open_tier, nominate, award, close_tier}
use Rattle.tariff.specs.Ranges.{term_out_of_range, max_kw}
use Rattle.netting.specs.ClassRanges.{class_line_out_of_range}
use Rattle.ledger.specs.Ranges.{unknown_holder, unknown_sink, unknown_path, unknown_holder_in, migration_out_of_range, tier_out_of_range}
use Rattle.ledger.specs.Calendar.{before_tier, migration_in_time, step_in_time, is_next_tier}
use Rattle.ledger.specs.Limits.{nominated_at, tier_limit}
use Rattle.ledger.specs.Migration.{load_before}
use Rattle.ledger.specs.Causes.{call_causes, migrate_causes, open_causes, nominate_causes, award_causes, close_causes, loss_exceeds_load, kind_ineligible, is_sub_lap, line_not_between_lses, lacks_evidence, exceeds_verified, exceeds_prior, exceeds_tier1_award, lacks_ten_year, exceeds_limit, exceeds_nominated}
use Rattle.ledger.specs.Season.{accepted}
use Rattle.ledger.proofs.Unmet.{unmet, accepted_zero, is_within, kw_in_range, open_number, none_open, before_tier_lem}

pub record MigrateFacts (o : Opening) (L : Ledger) (term sink : ℕ) (lines : List ClassLine) : Type 0 where
  pub sink_in_book : sink < o.sinks
  pub holders : unknown_holder_in o lines ≡ false
  pub term_in_range : term ≤ 3
  pub few : length lines ≤ 64
  pub ranges : any_of lines class_line_out_of_range ≡ false
  pub idle : L.tiers.current_tier ≡ 0
  pub early : L.tiers.last_closed < first_tier_of term
  pub month_after3 : (term ≡ 0) ⊎ (3 ≤ L.tiers.last_closed)
  pub between_lses : any_of lines (line_not_between_lses o) ≡ false
  pub fits : (i : ℕ) → i < o.holders → lost_by o.holders (netted lines) i ≤ load_before L term sink i

pub migrate_facts : (o : Opening) (L : Ledger) (term sink : ℕ) (lines : List ClassLine) → accepted o L (migrate term sink lines) ≡ true → MigrateFacts o L term sink lines
unfolding call_causes migrate_causes unknown_sink migration_out_of_range term_out_of_range migration_in_time loss_exceeds_load
migrate_facts o L term sink lines e =
    let r2 = unmet 1 _ _ (accepted_zero o L (migrate term sink lines) e) in
    let r3 = unmet 2 _ _ r2.1 in
    let r4 = unmet 3 _ _ r3.1 in
    let r8 = unmet 7 _ _ r4.1 in
    let r9 = unmet 8 _ _ r8.1 in
    let in_book = or_unmet _ _ r2.0 in
    let line_range = or_unmet _ _ r3.0 in
    let fields = or_unmet _ _ line_range.0 in
    let both = and_both (before_tier (first_tier_of term) L) _ (not-false _ r4.0) in
    let time = before_tier_lem (first_tier_of term) L (rw both.0) in
    record {
      sink_in_book = leb-false _ _ in_book.0;
      holders = in_book.1;
      term_in_range = ltb-false _ _ fields.0;
      few = ltb-false _ _ fields.1;
      ranges = line_range.1;
      idle = time.0;
      early = time.1;
      month_after3 = season-or-month (eqb term 0) refl both.1;
      between_lses = r8.0;
      fits = λ i h. ltb-false _ _ (none_below _ _ r9.0 i h);
    }
  where
    season-or-month : (t : Bool) → eqb term 0 ≡ t → (eqb term 0 || leb 3 L.tiers.last_closed) ≡ true → (term ≡ 0) ⊎ (3 ≤ L.tiers.last_closed)
    season-or-month true q r = inl (eqb-true term 0 q)
    season-or-month false q r = inr (leb-true 3 L.tiers.last_closed (rw q at r))

-- the opened tier comes after the last closed, and the Long Term step was not held before
pub record OpenFacts (L : Ledger) (tier : ℕ) : Type 0 where
  pub low : 1 ≤ tier
  pub high : tier ≤ 10
  pub idle : L.tiers.current_tier ≡ 0
  pub after_last_closed : L.tiers.last_closed < tier
  pub not_opened_before : tier ≡ 10 → L.tiers.step_held ≡ false

pub open_facts : (o : Opening) (L : Ledger) (tier : ℕ) → accepted o L (open_tier tier) ≡ true → OpenFacts L tier
unfolding call_causes open_causes tier_out_of_range is_next_tier is_long_term_step step_in_time
open_facts o L tier e =
    let r3 = unmet 2 _ _ (accepted_zero o L (open_tier tier) e) in
    let r4 = unmet 3 _ _ r3.1 in
    let range = is_within 1 10 tier r3.0 in
    let both = and_both _ _ (not-false _ r4.0) in
    let order = in_order (eqb tier 10) refl both.1 in
    record {
      low = range.0;
      high = range.1;
      idle = none_open L (not-true _ both.0);
      after_last_closed = order.0;
      not_opened_before = order.1;
    }
  where
    in_order : (t : Bool) → eqb tier 10 ≡ t → cond (eqb tier 10) (eqb L.tiers.last_closed 1 && not L.tiers.step_held) (eqb tier (suc L.tiers.last_closed)) ≡ true → (L.tiers.last_closed < tier) × (tier ≡ 10 → L.tiers.step_held ≡ false)
    in_order true q r =
        let ten = eqb-true tier 10 q in
        let time = and_both (eqb L.tiers.last_closed 1) (not L.tiers.step_held) (rw q at r) in
        let one = eqb-true L.tiers.last_closed 1 time.0 in
        (omega arith, λ w. not-true L.tiers.step_held time.1)
    in_order false q r =
        let next = eqb-true tier (suc L.tiers.last_closed) (rw q at r) in
        (omega arith, λ w. absurd (eqb-false tier 10 q w))

pub record NominateFacts (o : Opening) (L : Ledger) (h p kw : ℕ) : Type 0 where
  pub holder : h < o.holders
  pub path : p < o.paths
  pub low : 1 ≤ kw
  pub high : kw ≤ max_kw
  pub is_open : 1 ≤ L.tiers.current_tier
  pub sink_eligible : kind_ineligible o h (path_sink o p) ≡ false
  pub not_sub_lap : (eqb L.tiers.current_tier 1 && is_sub_lap o (path_sink o p)) ≡ false
  pub evidence : lacks_evidence o L L.tiers.current_tier h p ≡ false
  pub verified : exceeds_verified o L L.tiers.current_tier h p kw ≡ false
  pub remaining : exceeds_prior L L.tiers.current_tier h p kw ≡ false
  pub within_tier1 : L.tiers.current_tier ≡ 10 → L.tiers.nominated h p L.tiers.current_tier + kw ≤ L.tiers.awards h p 1
  pub ten_year : lacks_ten_year o L L.tiers.current_tier h p kw ≡ false
  pub within_limit : nominated_at o L h (path_base o p) L.tiers.current_tier + kw ≤ tier_limit o L L.tiers.current_tier h (path_base o p)

-- in the step, what is not above the tier 1 award is within it
within_tier_1 : (L : Ledger) (tier h p kw : ℕ) → tier ≡ 10 → exceeds_tier1_award L tier h p kw ≡ false → L.tiers.nominated h p tier + kw ≤ L.tiers.awards h p 1
unfolding exceeds_tier1_award is_long_term_step
within_tier_1 L tier h p kw step e = ltb-false _ _ (rw (eq-eqb tier 10 step) at e)

pub nominate_facts : (o : Opening) (L : Ledger) (h p kw : ℕ) → accepted o L (nominate h p kw) ≡ true → NominateFacts o L h p kw
unfolding call_causes nominate_causes unknown_holder unknown_path exceeds_limit
nominate_facts o L h p kw e =
    let r2 = unmet 1 _ _ (accepted_zero o L (nominate h p kw) e) in
    let r3 = unmet 2 _ _ r2.1 in
    let r4 = unmet 3 _ _ r3.1 in
    let r10 = unmet 9 _ _ r4.1 in
    let r19 = unmet 18 _ _ r10.1 in
    let r11 = unmet 10 _ _ r19.1 in
    let r12 = unmet 11 _ _ r11.1 in
    let r17 = unmet 16 _ _ r12.1 in
    let r18 = unmet 17 _ _ r17.1 in
    let r13 = unmet 12 _ _ r18.1 in
    let in_book = or_unmet _ _ r2.0 in
    let range = kw_in_range kw r3.0 in
    let for-it = or_unmet _ _ r10.0 in
    record {
      holder = leb-false _ _ in_book.0;
      path = leb-false _ _ in_book.1;
      low = range.0;
      high = range.1;
      is_open = open_number L r4.0;
      sink_eligible = for-it.0;
      not_sub_lap = for-it.1;
      evidence = r19.0;
      verified = r11.0;
      remaining = r12.0;
      within_tier1 = λ step. within_tier_1 L _ h p kw step r17.0;
      ten_year = r18.0;
      within_limit = ltb-false _ _ r13.0;
    }

pub record AwardFacts (o : Opening) (L : Ledger) (h p kw : ℕ) : Type 0 where
  pub holder : h < o.holders
  pub path : p < o.paths
  pub low : 1 ≤ kw
  pub high : kw ≤ max_kw
  pub is_open : 1 ≤ L.tiers.current_tier
  pub within_nominated : L.tiers.awards h p L.tiers.current_tier + kw ≤ L.tiers.nominated h p L.tiers.current_tier

pub award_facts : (o : Opening) (L : Ledger) (h p kw : ℕ) → accepted o L (award h p kw) ≡ true → AwardFacts o L h p kw
unfolding call_causes award_causes unknown_holder unknown_path exceeds_nominated
award_facts o L h p kw e =
    let r2 = unmet 1 _ _ (accepted_zero o L (award h p kw) e) in
    let r3 = unmet 2 _ _ r2.1 in
    let r4 = unmet 3 _ _ r3.1 in
    let r14 = unmet 13 _ _ r4.1 in
    let in_book = or_unmet _ _ r2.0 in
    let range = kw_in_range kw r3.0 in
    record {
      holder = leb-false _ _ in_book.0;
      path = leb-false _ _ in_book.1;
      low = range.0;
      high = range.1;
      is_open = open_number L r4.0;
      within_nominated = ltb-false _ _ r14.0;
    }

pub close_fact : (o : Opening) (L : Ledger) → accepted o L close_tier ≡ true → 1 ≤ L.tiers.current_tier
unfolding call_causes close_causes
close_fact o L e = open_number L (unmet 3 _ _ (accepted_zero o L close_tier e)).0
