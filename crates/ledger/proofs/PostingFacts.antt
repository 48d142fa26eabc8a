-- What is known of a load, carry, prior or verify that is accepted: what each cause that it does not meet rules out. Assumes nothing.
use Prim.Native.Nat.{ℕ, ◌≤◌, ◌<◌}
use mathlib.Core.Path.{◌≡◌}
use mathlib.Core.Bool.{true, false}
use mathlib.Core.List.{List}
use lib.ListN.{length}
use lib.Dec.{ltb}
use borrow.Author.Tests.{ltb-false, leb-false}
use Rattle.tariff.specs.Sum.{any_of}
use Rattle.load_metric.specs.declared.block.Block.{Block}
use Rattle.load_metric.specs.Load.{blocks_broken, too_many_missing}
use Rattle.tariff.specs.Terms.{first_tier_of}
use Rattle.source_evidence.specs.Evidence.{highest_right}
use Rattle.tariff.proofs.Tests.{or_unmet}
use Rattle.source_evidence.proofs.EvidenceRange.{evidence_facts}
use Rattle.ledger.specs.Opening.{Opening, path_sink}
use Rattle.ledger.specs.Ledger.{Ledger}
use Rattle.ledger.specs.Call.{load, carry, prior, verify}
use Rattle.tariff.specs.Ranges.{term_out_of_range, max_kw}
use Rattle.ledger.specs.Ranges.{unknown_holder, unknown_source, unknown_sink, unknown_path, load_out_of_range, prior_out_of_range}
use Rattle.ledger.specs.Calendar.{load_in_time}
use Rattle.ledger.specs.Causes.{call_causes, load_causes, carry_causes, prior_causes, verify_causes, kind_ineligible, is_sub_lap}
use Rattle.ledger.specs.Season.{accepted}
use Rattle.ledger.proofs.Unmet.{unmet, accepted_zero, is_within, kw_in_range, none_open, before_tier_lem}

pub record LoadFacts (o : Opening) (L : Ledger) (h s term contract n : ℕ) (blocks : List Block) : Type 0 where
  pub holder : h < o.holders
  pub sink : s < o.sinks
  pub term_in_range : term ≤ 3
  pub contract_in_range : contract ≤ max_kw
  pub hours : (1 ≤ n) × (n ≤ 2208)
  pub few : length blocks ≤ 2208
  pub block_kw : any_of blocks (λ b. ltb max_kw b.kw) ≡ false
  pub idle : L.tiers.current_tier ≡ 0
  pub early : L.tiers.last_closed < first_tier_of term
  pub new : L.loads.posted h s term ≡ false
  pub unbroken : blocks_broken n blocks ≡ false
  pub present : too_many_missing o.settings n blocks ≡ false
  pub sink_eligible : kind_ineligible o h s ≡ false
  pub is_base : is_sub_lap o s ≡ false

pub load_facts : (o : Opening) (L : Ledger) (h s term contract n : ℕ) (blocks : List Block) → accepted o L (load h s term contract n blocks) ≡ true → LoadFacts o L h s term contract n blocks
unfolding call_causes load_causes unknown_holder unknown_sink load_out_of_range term_out_of_range load_in_time
load_facts o L h s term contract n blocks e =
    let r2 = unmet 1 _ _ (accepted_zero o L (load h s term contract n blocks) e) in
    let r3 = unmet 2 _ _ r2.1 in
    let r4 = unmet 3 _ _ r3.1 in
    let r5 = unmet 4 _ _ r4.1 in
    let r6 = unmet 5 _ _ r5.1 in
    let r7 = unmet 6 _ _ r6.1 in
    let r10 = unmet 9 _ _ r7.1 in
    let in_book = or_unmet _ _ r2.0 in
    let d = or_unmet _ _ r3.0 in
    let c = or_unmet _ _ d.0 in
    let b = or_unmet _ _ c.0 in
    let a = or_unmet _ _ b.0 in
    let time = before_tier_lem (first_tier_of term) L r4.0 in
    let for-it = or_unmet _ _ r10.0 in
    record {
      holder = leb-false _ _ in_book.0;
      sink = leb-false _ _ in_book.1;
      term_in_range = ltb-false _ _ a.0;
      contract_in_range = ltb-false _ _ a.1;
      hours = is_within 1 2208 n b.1;
      few = ltb-false _ _ c.1;
      block_kw = d.1;
      idle = time.0;
      early = time.1;
      new = r5.0;
      unbroken = r6.0;
      present = r7.0;
      sink_eligible = for-it.0;
      is_base = for-it.1;
    }

pub record CarryFacts (o : Opening) (L : Ledger) (h p kw : ℕ) : Type 0 where
  pub holder : h < o.holders
  pub path : p < o.paths
  pub low : 1 ≤ kw
  pub high : kw ≤ max_kw
  pub idle : L.tiers.current_tier ≡ 0
  pub early : L.tiers.last_closed < 1
  pub new : L.rights.posted h p ≡ false
  pub sink_eligible : kind_ineligible o h (path_sink o p) ≡ false

pub carry_facts : (o : Opening) (L : Ledger) (h p kw : ℕ) → accepted o L (carry h p kw) ≡ true → CarryFacts o L h p kw
unfolding call_causes carry_causes unknown_holder unknown_path
carry_facts o L h p kw e =
    let r2 = unmet 1 _ _ (accepted_zero o L (carry h p kw) e) in
    let r3 = unmet 2 _ _ r2.1 in
    let r4 = unmet 3 _ _ r3.1 in
    let r5 = unmet 4 _ _ r4.1 in
    let r10 = unmet 9 _ _ r5.1 in
    let in_book = or_unmet _ _ r2.0 in
    let range = kw_in_range kw r3.0 in
    let time = before_tier_lem 1 L r4.0 in
    record {
      holder = leb-false _ _ in_book.0;
      path = leb-false _ _ in_book.1;
      low = range.0;
      high = range.1;
      idle = time.0;
      early = time.1;
      new = r5.0;
      sink_eligible = r10.0;
    }

pub record PriorFacts (o : Opening) (L : Ledger) (h p a l : ℕ) : Type 0 where
  pub holder : h < o.holders
  pub path : p < o.paths
  pub low : 1 ≤ a
  pub high : a ≤ max_kw
  pub part : l ≤ a
  pub idle : L.tiers.current_tier ≡ 0
  pub early : L.tiers.last_closed < 1
  pub new : L.priors.posted h p ≡ false
  pub sink_eligible : kind_ineligible o h (path_sink o p) ≡ false

pub prior_facts : (o : Opening) (L : Ledger) (h p a l : ℕ) → accepted o L (prior h p a l) ≡ true → PriorFacts o L h p a l
unfolding call_causes prior_causes unknown_holder unknown_path prior_out_of_range
prior_facts o L h p a l e =
    let r2 = unmet 1 _ _ (accepted_zero o L (prior h p a l) e) in
    let r3 = unmet 2 _ _ r2.1 in
    let r4 = unmet 3 _ _ r3.1 in
    let r5 = unmet 4 _ _ r4.1 in
    let r10 = unmet 9 _ _ r5.1 in
    let in_book = or_unmet _ _ r2.0 in
    let fields = or_unmet _ _ r3.0 in
    let range = kw_in_range a fields.0 in
    let time = before_tier_lem 1 L r4.0 in
    record {
      holder = leb-false _ _ in_book.0;
      path = leb-false _ _ in_book.1;
      low = range.0;
      high = range.1;
      part = ltb-false _ _ fields.1;
      idle = time.0;
      early = time.1;
      new = r5.0;
      sink_eligible = r10.0;
    }

pub record VerifyFacts (o : Opening) (L : Ledger) (h s kind capacity right first last mark : ℕ) : Type 0 where
  pub holder : h < o.holders
  pub source : s < o.sources
  pub kinds : (1 ≤ kind) × (kind ≤ 2)
  pub low : 1 ≤ capacity
  pub high : capacity ≤ max_kw
  pub rights : (1 ≤ right) × (right ≤ highest_right kind capacity)
  pub months : (1 ≤ first) × (first ≤ last) × (last ≤ 3)
  pub idle : L.tiers.current_tier ≡ 0
  pub new : L.evidence.posted h s kind ≡ false

pub verify_facts : (o : Opening) (L : Ledger) (h s kind capacity right first last mark : ℕ) → accepted o L (verify h s kind capacity right first last mark) ≡ true → VerifyFacts o L h s kind capacity right first last mark
unfolding call_causes verify_causes unknown_holder unknown_source
verify_facts o L h s kind capacity right first last mark e =
    let r2 = unmet 1 _ _ (accepted_zero o L (verify h s kind capacity right first last mark) e) in
    let r3 = unmet 2 _ _ r2.1 in
    let r4 = unmet 3 _ _ r3.1 in
    let r5 = unmet 4 _ _ r4.1 in
    let in_book = or_unmet _ _ r2.0 in
    let evidence = evidence_facts kind capacity right first last mark r3.0 in
    record {
      holder = leb-false _ _ in_book.0;
      source = leb-false _ _ in_book.1;
      kinds = evidence.kinds;
      low = evidence.capacities.0;
      high = evidence.capacities.1;
      rights = evidence.rights;
      months = evidence.months;
      idle = none_open L r4.0;
      new = r5.0;
    }
