-- A holder's ten-year evidence, read in its slots, and what it comes to over the sources. Assumes nothing.
use Prim.Native.Nat.{ℕ, ◌+◌, ◌*◌, ◌≤◌, ◌<◌}
use mathlib.Core.Path.{◌≡◌, ap, ◌∙◌}
use mathlib.Core.Bool.{Bool, ◌||◌}
use mathlib.Core.List.{List}
use native.Mathlib.Nat.{le_trans, mul-le-mul_right}
use native.Mathlib.Omega.{arith}
use lib.Dec.{eqb}
use borrow.Author.Tests.{eq-eqb, ne_eqb}
use Rattle.records.specs.declared.setup.KeptOpening.{KeptOpening}
use Rattle.source_evidence.specs.declared.evidence.Entry.{Entry}
use Rattle.tariff.specs.Sizes.{ownership, contract}
use Rattle.tariff.specs.Sum.{when_true, sum_to}
use Rattle.source_evidence.specs.Evidence.{entry_kw, is_ten_year, ten_year_kw_of}
use Rattle.tariff.specs.Ranges.{max_kw}
use Rattle.tariff.specs.Terms.{is_long_term_step}
use Rattle.tariff.proofs.Sums.{when_le, sum_bound}
use Rattle.ledger.specs.Ledger.{Ledger}
use Rattle.ledger.specs.TenYear.{has_ten_year, ten_year_at}
use Rattle.records.specs.Opening.{opening_in}
use Rattle.slots.specs.Cells.{read_at}
use Rattle.slots.specs.Coverage.{covered_kw}
use Rattle.slots.specs.Layout.{ownership_slot, contract_slot, ten_year_slot, figure_slots, ledger_in}
use Rattle.slots.specs.Steps.{Reachable}
use Rattle.slots.proofs.Reachable.{counts}
use Rattle.slots.proofs.ReadBack.{flag_back}
use Rattle.slots.proofs.Figures.{ten_year_read, evidence_fits_lem}
use Rattle.tier_limits.proofs.EvidenceSlots.{owned_kw, contracted_kw}

module _ (o : KeptOpening) (f : List ℕ) (m : List Bool) (x : List Entry) (r : Reachable o f m x) (h s : ℕ) (l : h < (opening_in o).holders) (place : s < 16) where
  abbrev L : Ledger
  L = ledger_in f m x

  holder : h < 8
  holder = le_trans l (counts o f m x r).0

  -- the flags of ownership and contract
  owned-flag : (a : ℕ) → a ≡ read_at figure_slots 0 f h s ten_year_slot → eqb a 1 ≡ is_ten_year (L.evidence.entry h s ownership)
  owned-flag a e = ap (λ n. eqb n 1) (e ∙ ten_year_read o f m x r h s 0 holder place (omega arith)) ∙ flag_back (is_ten_year (L.evidence.entry h s ownership))

  contract-flag : (b : ℕ) → b ≡ read_at figure_slots 0 f h s (ten_year_slot + 1) → eqb b 1 ≡ is_ten_year (L.evidence.entry h s contract)
  contract-flag b e = ap (λ n. eqb n 1) (e ∙ ten_year_read o f m x r h s 1 holder place (omega arith)) ∙ flag_back (is_ten_year (L.evidence.entry h s contract))

  pub has_is : (a b : ℕ) → a ≡ read_at figure_slots 0 f h s ten_year_slot → b ≡ read_at figure_slots 0 f h s (ten_year_slot + 1) → (eqb a 1 || eqb b 1) ≡ has_ten_year L h s
  unfolding has_ten_year
  has_is a b ea eb = λ i. owned-flag a ea i || contract-flag b eb i

  -- the kW beside them
  pub at_is : (a b v w owned contracted : ℕ) → a ≡ read_at figure_slots 0 f h s ten_year_slot → b ≡ read_at figure_slots 0 f h s (ten_year_slot + 1) → v ≡ covered_kw (read_at figure_slots 0 f h s ownership_slot) → w ≡ covered_kw (read_at figure_slots 0 f h s contract_slot) → owned ≡ when_true (eqb a 1) v → contracted ≡ when_true (eqb b 1) w → owned + contracted ≡ ten_year_at L h s
  unfolding ten_year_at ten_year_kw_of
  at_is a b v w owned contracted ea eb ev ew eo ec =
      λ i.
      (eo ∙ (λ j. when_true (owned-flag a ea j) ((ev ∙ owned_kw o f m x r h s l place 0 (omega arith)) j))) i
      + (ec ∙ (λ j. when_true (contract-flag b eb j) ((ew ∙ contracted_kw o f m x r h s l place 0 (omega arith)) j))) i

  kw-fits : (kind : ℕ) → ten_year_kw_of (L.evidence.entry h s kind) ≤ max_kw
  unfolding ten_year_kw_of
  kw-fits kind = le_trans (when_le (is_ten_year (L.evidence.entry h s kind)) (entry_kw 0 (L.evidence.entry h s kind))) (evidence_fits_lem o f m x r h s kind 0)

  pub at_fits : ten_year_at L h s ≤ 2 * max_kw
  unfolding ten_year_at
  at_fits = let a = kw-fits ownership in let b = kw-fits contract in omega arith

module _ (o : KeptOpening) (f : List ℕ) (m : List Bool) (x : List Entry) (r : Reachable o f m x) (h : ℕ) (l : h < (opening_in o).holders) where
  -- what it comes to over all sources
  pub sources_fit : sum_to (opening_in o).sources (ten_year_at (ledger_in f m x) h) ≤ 16 * (2 * max_kw)
  sources_fit =
      let few = (counts o f m x r).1 in
      le_trans
      (sum_bound {f = ten_year_at (ledger_in f m x) h} (2 * max_kw) (opening_in o).sources (λ j i. at_fits o f m x r h j l (omega arith)))
      (mul-le-mul_right (2 * max_kw) (let s16 : (opening_in o).sources ≤ 16 = omega arith in s16))

-- in the Long Term step a limit takes it all, and in another tier nothing
pub step_takes : (tier sum : ℕ) → tier ≡ 10 → sum ≡ when_true (is_long_term_step tier) sum
unfolding is_long_term_step when_true
step_takes tier sum e = rw (eq-eqb tier 10 e)

pub tier_takes_none : (tier sum : ℕ) → (tier ≡ 10 → ⊥) → 0 ≡ when_true (is_long_term_step tier) sum
unfolding is_long_term_step when_true
tier_takes_none tier sum ne = rw (ne_eqb tier 10 ne)
