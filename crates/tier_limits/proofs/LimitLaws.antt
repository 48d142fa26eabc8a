-- The slots that a limit reads, what all paths' sums are in the ledger, and what a limit query answers. Assumes nothing.
use Prim.Native.Nat.{ℕ, ◌+◌, ◌-◌, ◌≤◌, ◌<◌}
use mathlib.Core.Path.{◌≡◌, refl, sym, ap, ◌∙◌, subst}
use mathlib.Core.Bool.{Bool, true, false, cond}
use mathlib.Core.List.{List}
use native.Mathlib.Nat.{le_trans, le_of_eq}
use native.Mathlib.Omega.{arith}
use lib.Dec.{leb, eqb}
use borrow.Author.Tests.{leb-true, leb-false, eqb-false}
use Rattle.records.specs.declared.setup.KeptOpening.{KeptOpening}
use Rattle.std.specs.Prelude.{Ok}
use Rattle.tariff.specs.Sizes.{last_month, last_term, terms, long_term_step}
use Rattle.source_evidence.specs.declared.evidence.Entry.{Entry}
use Rattle.tariff.specs.declared.limit.Sums.{Sums}
use Rattle.tariff.specs.declared.limit.TierRule.{TierRule}
use Rattle.tariff.specs.Limit.{rule_of}
use Rattle.tariff.specs.Sum.{when_true, all_below}
use Rattle.tariff.specs.Terms.{term_table, term_of, carried_month, is_long_term_step}
use Rattle.tariff.proofs.Sums.{sum_ext}
use Rattle.tariff.proofs.Tests.{all_below_lem, or_unmet}
use Rattle.ledger.specs.Opening as opening
use Rattle.ledger.specs.Ledger.{Ledger}
use Rattle.ledger.specs.Ranges.{unknown_holder, unknown_sink}
use Rattle.ledger.specs.TenYear.{ten_year_sum}
use Rattle.ledger.specs.Limits.{sum_at_base, long_term_at, prior_year_at, awards_at, limit_sums, tier_limit}
use Rattle.ledger.specs.Call.{limit_of}
use Rattle.ledger.specs.Causes.{limit_causes, query_causes, query_refusal}
use Rattle.ledger.specs.Season.{query_value}
use Rattle.ledger.proofs.Unmet.{unmet}
use Rattle.records.specs.Opening.{opening_in}
use Rattle.slots.specs.Cells.{HasCell, read_at}
use Rattle.slots.specs.Layout.{load_slot, prior_allocated_slot, carried_slot, awards_slot, tier_slots, figure_slots, current_tier_in, ledger_in}
use Rattle.slots.specs.Sums.{on_path}
use Rattle.slots.specs.Steps.{Reachable, ReachableFigures, InFigures, query_answer}
use Rattle.slots.proofs.Reachable.{counts, sound}
use Rattle.slots.proofs.Figures.{by_number, from_zero, summable}
use Rattle.slots.proofs.Places.{base_place}
use Rattle.slots.proofs.StepLaws.{query_answered}
use Rattle.tier_limits.specs.declared.limits.PathSums.{PathSums}
use Rattle.tier_limits.specs.Inputs.{LimitInputs}
use Rattle.tier_limits.specs.PathSums.{slot_to, sums_to, PathsSummable}

-- the open tier is none past the Long Term step
pub open_last_lem : (o : KeptOpening) (f : List ℕ) (m : List Bool) (x : List Entry) → Reachable o f m x → (tier : ℕ) → tier ≡ current_tier_in f → tier ≤ long_term_step
unfolding ledger_in
open_last_lem o f m x r tier e = le_trans (le_of_eq e) (sound o f m x r).open_last

-- a tier's term is a term
pub term_below : (tier : ℕ) → tier ≤ long_term_step → term_of tier < terms
unfolding term_of term_table all_below
term_below tier l = let fits = leb-true (term_of tier) last_term (all_below_lem (1 + long_term_step) (λ t. leb (term_of t) last_term) refl tier (omega arith)) in omega arith

-- and the month whose carried rights count in it a month
carried_range : (term : ℕ) → term < terms → (1 ≤ carried_month term) × (carried_month term ≤ last_month)
unfolding carried_month
carried_range term l = go (eqb term 0) refl
  where
    go : (t : Bool) → eqb term 0 ≡ t → (1 ≤ cond t 1 term) × (cond t 1 term ≤ last_month)
    go true e = (omega arith, omega arith)
    go false e = let some = eqb-false term 0 e in (omega (arith, some), omega arith)

module _ (o : KeptOpening) (f : List ℕ) (tier h base month last : ℕ) (rule : TierRule) (inputs : LimitInputs o f tier h base) (of_tier : rule ≡ rule_of tier) where
  abbrev O : opening.Opening
  O = opening_in o

  term_is : rule.term ≡ term_of tier
  unfolding rule_of
  term_is = ap (λ (r : TierRule). r.term) of_tier

  term_fits : rule.term < terms
  term_fits = let t = term_is in let fits = term_below tier inputs.last in omega arith

  few : O.holders ≤ 8
  few = (counts o f _ _ inputs.figures.reachable).0

  -- the cell of the load
  pub load_cell : HasCell figure_slots h base (load_slot + rule.term)
  load_cell = record { holder = le_trans inputs.holder few; place = inputs.place; in_row = let t = term_fits in omega arith }

  -- the month of the carried rights
  pub month_range : month ≡ carried_month rule.term → (1 ≤ month) × (month ≤ last_month)
  month_range e = subst (λ n. (1 ≤ n) × (n ≤ last_month)) (sym e) (carried_range rule.term term_fits)

  -- the figures of all paths can be summed
  pub all_summable : month ≡ carried_month rule.term → last ≡ tier - 1 → PathsSummable o f h (record { carried = carried_slot + (month - 1); before = awards_slot + last })
  all_summable e l =
      let months = month_range e in
      let few = inputs.last in
      record {
        each = λ slot i. summable o f _ _ inputs.figures.reachable h slot inputs.holder i;
        carried_in_row = omega arith;
        before_in_row = omega arith;
      }

  module _ (m : List Bool) (x : List Entry) (r : Reachable o f m x) where
    abbrev L : Ledger
    L = ledger_in f m x

    -- a sum over all paths, by the ledger's figure
    at_base : (slot : ℕ) (v : ℕ → ℕ) → ((p : ℕ) → p < 16 → on_path f h slot p ≡ v p) → slot_to O f h base slot O.paths ≡ sum_at_base O base v
    unfolding slot_to sum_at_base
    at_base slot v e = sum_ext O.paths (λ p l. ap (when_true (opening.has_base O base p)) (e p (le_trans l (counts o f m x r).3)))

    holder : h < 8
    holder = le_trans inputs.holder few

    awards-at : (t : ℕ) → t < tier_slots → slot_to O f h base (awards_slot + t) O.paths ≡ awards_at O L h base t
    unfolding awards_at ledger_in
    awards-at t l = at_base (awards_slot + t) _ (λ p k. from_zero f awards_slot tier_slots h p t holder k l)

    -- the sums over all paths are those of the limit
    pub limit_sums_are : (load ten_year : ℕ) (sums : PathSums) (obaalse : Bool) → month ≡ carried_month rule.term → last ≡ tier - 1 → load ≡ read_at figure_slots 0 f h base (load_slot + rule.term) → sums ≡ sums_to O f h base (record { carried = carried_slot + (month - 1); before = awards_slot + last }) O.paths → ten_year ≡ when_true (is_long_term_step tier) (ten_year_sum O L h) → obaalse ≡ eqb (opening.holder_kind O h) opening.obaalse → ◌≡◌ {A = Sums} (record { load = load; carried = sums.carried; prior = sums.prior; tier1 = sums.tier1; tier2 = sums.tier2; tier3 = sums.tier3; before = sums.before; ten_year_kw = ten_year; obaalse = obaalse }) (limit_sums O L tier h base)
    unfolding sums_to limit_sums long_term_at prior_year_at ledger_in
    limit_sums_are load ten_year sums obaalse of_term before of_load is of_evidence of_kind =
        let months = month_range of_term in
        let final = inputs.last in
        λ i.
        record {
          load = (of_load ∙ from_zero f load_slot terms h base rule.term holder inputs.place term_fits ∙ ap (L.loads.kw h base) term_is) i;
          carried = (ap (λ (s : PathSums). s.carried) is ∙ at_base (carried_slot + (month - 1)) _ (λ p k. by_number f carried_slot last_month h p month holder k 1 months.0 (omega arith)) ∙ ap (long_term_at O L h base) (of_term ∙ ap carried_month term_is)) i;
          prior = (ap (λ (s : PathSums). s.prior) is ∙ at_base prior_allocated_slot _ (λ p k. from_zero f prior_allocated_slot 1 h p 0 holder k (omega arith))) i;
          tier1 = (ap (λ (s : PathSums). s.tier1) is ∙ awards-at 1 (omega arith)) i;
          tier2 = (ap (λ (s : PathSums). s.tier2) is ∙ awards-at 2 (omega arith)) i;
          tier3 = (ap (λ (s : PathSums). s.tier3) is ∙ awards-at 3 (omega arith)) i;
          before = (ap (λ (s : PathSums). s.before) is ∙ awards-at last (omega arith) ∙ ap (awards_at O L h base) before) i;
          ten_year_kw = of_evidence i;
          obaalse = of_kind i;
        }

-- a limit query that meets no cause is of a holder and a sink in the book
query_facts : (o : opening.Opening) (L : Ledger) (h s : ℕ) → query_refusal o L (limit_of h s) ≡ 0 → (h < o.holders) × (s < o.sinks)
unfolding query_refusal query_causes limit_causes unknown_holder unknown_sink
query_facts o L h s e = let known = or_unmet _ _ (unmet 1 _ _ e).0 in (leb-false _ _ known.0, leb-false _ _ known.1)

module _ (o : KeptOpening) (f : List ℕ) (h s tier base : ℕ) (unmet : InFigures o f (λ O L. 0 ≡ query_refusal O L (limit_of h s))) (now : tier ≡ current_tier_in f) (there : base ≡ opening.base (opening_in o) s) where
  -- its limit can be asked for
  pub query_inputs : ReachableFigures o f → LimitInputs o f tier h base
  query_inputs k =
      let known = query_facts (opening_in o) (ledger_in f k.posted k.evidence) h s (sym (unmet _ _ k.reachable)) in
      record {
        figures = k;
        last = open_last_lem o f _ _ k.reachable tier now;
        holder = known.0;
        place = subst (λ n. n < 16) (sym there) (base_place o f _ _ k.reachable s known.1);
      }

  -- and is its answer
  pub limit_answered : (m : List Bool) (x : List Entry) (v : ℕ) → Reachable o f m x → v ≡ tier_limit (opening_in o) (ledger_in f m x) tier h base → Ok v ≡ query_answer (opening_in o) (ledger_in f m x) (limit_of h s)
  unfolding query_value ledger_in
  limit_answered m x v r e = query_answered (opening_in o) (ledger_in f m x) (limit_of h s) v (unmet m x r) (e ∙ (λ i. tier_limit (opening_in o) (ledger_in f m x) (now i) h (there i)))
