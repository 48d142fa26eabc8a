-- What stands in each slot of a book's figures, and how large it can be. Assumes nothing.
use Prim.Native.Nat.{ℕ, suc, ◌+◌, ◌-◌, ◌^◌, ◌≤◌, ◌<◌, zero-le}
use mathlib.Core.Path.{◌≡◌, refl, sym, ap, ◌∙◌}
use mathlib.Core.Bool.{Bool, true, false, cond}
use mathlib.Core.List.{List, [], ◌∷◌, ◌++◌}
use mathlib.Core.Logic.{◌⊎◌, inl, inr}
use native.Mathlib.Nat.{le_trans, le_of_eq, add-zero, sub-zero}
use native.Mathlib.Omega.{arith}
use lib.ListN.{take, drop}
use lib.Dec.{ltb, eqb}
use borrow.Author.Tests.{eq-eqb, ltb-true}
use Rattle.records.specs.declared.setup.KeptOpening.{KeptOpening}
use Rattle.source_evidence.specs.declared.evidence.Entry.{Entry}
use Rattle.tariff.specs.Sum.{when_true, sum_to}
use Rattle.tariff.specs.Sizes.{terms, evidence_kinds, ownership, contract}
use Rattle.tariff.specs.Ranges.{max_kw}
use Rattle.source_evidence.specs.Evidence.{entry_kw, is_ten_year}
use Rattle.tariff.proofs.Sums.{when_is_true, when_le, term_le_sum}
use Rattle.tariff.proofs.Tests.{decided}
use Rattle.source_evidence.proofs.EvidenceBounds.{entry_le}
use Rattle.ledger.specs.Opening.{Opening, path_base, has_base}
use Rattle.ledger.specs.Ledger.{Ledger}
use Rattle.ledger.specs.Limits.{sum_at_base, nominated_at}
use Rattle.ledger.proofs.Conserved.{carried_sum, awarded_sum, load_sum}
use Rattle.ledger.proofs.TierBounds.{nominated_sum}
use Rattle.ledger.proofs.Bounds.{max_together, one_fits}
use Rattle.records.specs.Opening.{opening_in}
use Rattle.slots.specs.Cells.{read_at}
use Rattle.slots.specs.Groups.{SlotGroup, slot_group, slots_of, in_slot, figure_from}
use Rattle.slots.specs.Coverage.{coverage}
use Rattle.slots.specs.Layout.{figure_slots, figure_groups, calendar_of, figure_in, ledger_in, flag, ownership_slot, contract_slot, ten_year_slot}
use Rattle.slots.specs.Sums.{max_figure, Summable}
use Rattle.slots.specs.Steps.{Reachable}
use Rattle.slots.proofs.CoverageLaws.{coverage_le}
use Rattle.slots.proofs.GroupLaws.{in_group_lem}
use Rattle.slots.proofs.StoreLaws.{slot_shown}
use Rattle.slots.proofs.Reachable.{bases_known, counts, fits, figures_shown}

-- every figure of groups at a holder and a place is within a bound ..
abbrev pub EachWithin : ℕ → List (SlotGroup ℕ) → (h p : ℕ) → Type 0
EachWithin most [] h p = Unit {0}
EachWithin most (slot_group count low figure ∷ later) h p = ((j : ℕ) → j < count → figure h p (j + low) ≤ most) × EachWithin most later h p

-- .. and so is what stands in any slot
within_slot : (most : ℕ) (gs : List (SlotGroup ℕ)) (h p slot : ℕ) → EachWithin most gs h p → in_slot 0 gs h p slot ≤ most
unfolding in_slot
within_slot most [] h p slot w = zero-le
within_slot most (slot_group count low figure ∷ later) h p slot w = go (decided (ltb slot count)) (within_slot most later h p (slot - count) w.1)
  where
    go : (ltb slot count ≡ true) ⊎ (ltb slot count ≡ false) → in_slot 0 later h p (slot - count) ≤ most → cond (ltb slot count) (figure h p (slot + low)) (in_slot 0 later h p (slot - count)) ≤ most
    go (inl t) ih = le_trans (le_of_eq (ap (λ u. cond u (figure h p (slot + low)) (in_slot 0 later h p (slot - count))) t)) (w.0 slot (ltb-true slot count t))
    go (inr t) ih = le_trans (le_of_eq (ap (λ u. cond u (figure h p (slot + low)) (in_slot 0 later h p (slot - count))) t)) ih

-- a flag is at most 1
flag_le : (test : Bool) → flag test ≤ 1
unfolding flag
flag_le test = when_le test 1

-- a figure within the bound has room for the kW of one call more
pub room_for_more : (x kw : ℕ) → x ≤ max_figure → kw ≤ max_kw → x + kw < 2 ^ 64
room_for_more x kw a b = omega arith

-- a nomination on a path is among those at its base
nominated_at_base : (o : Opening) (L : Ledger) (h p t : ℕ) → p < o.paths → L.tiers.nominated h p t ≤ nominated_at o L h (path_base o p) t
unfolding nominated_at sum_at_base has_base
nominated_at_base o L h p t l =
    let here = when_is_true (L.tiers.nominated h p t) (eq-eqb (path_base o p) (path_base o p) refl) in
    let part = term_le_sum (λ q. when_true (eqb (path_base o q) (path_base o p)) (L.tiers.nominated h q t)) o.paths p l in
    omega arith

-- a figure that the ledger in the arrays has for a number is the one in that number's slot
module _ (f : List ℕ) (from count h p k : ℕ) (a : h < 8) (b : p < 16) where
  pub by_number : (low : ℕ) → low ≤ k → k < low + count → read_at figure_slots 0 f h p (from + (k - low)) ≡ figure_in f from count low h p k
  unfolding figure_in figure_from
  by_number low above below = sym (ap (λ t. cond t (read_at figure_slots 0 f h p (from + (k - low))) 0) (in_group_lem count low h p k a b above below))

  pub from_zero : k < count → read_at figure_slots 0 f h p (from + k) ≡ figure_in f from count 0 h p k
  from_zero below = ap (λ n. read_at figure_slots 0 f h p (from + n)) (sym (sub-zero k)) ∙ by_number 0 zero-le (omega arith)

module _ (o : KeptOpening) (f : List ℕ) (m : List Bool) (x : List Entry) (r : Reachable o f m x) where
  abbrev L : Ledger
  L = ledger_in f m x

  abbrev O : Opening
  O = opening_in o

  -- group i of the figures, by its slots
  shown : (i from count low : ℕ) (figure : ℕ → ℕ → ℕ → ℕ) → slots_of (take i (figure_groups L)) ≡ from → from + count ≤ figure_slots → take i (figure_groups L) ++ (slot_group count low figure ∷ drop (suc i) (figure_groups L)) ≡ figure_groups L → (h p j : ℕ) → h < 8 → p < 16 → j < count → read_at figure_slots 0 f h p (from + j) ≡ figure h p (j + low)
  shown i from count low figure at fits same h p j a b l =
      slot_shown 0 figure_slots from count low (take i (figure_groups L)) (drop (suc i) (figure_groups L)) at fits figure f (calendar_of L) h p j a b l (rw same (figures_shown o f m x r))

  nominated_fits : (h p : ℕ) → h < O.holders → p < O.paths → L.tiers.nominated h p L.tiers.current_tier ≤ max_together
  unfolding nominated_sum
  nominated_fits h p l k =
      let t = L.tiers.current_tier in
      le_trans (nominated_at_base O L h p t k) (one_fits (λ y. nominated_at O L y (path_base O p) t) O.holders max_together h l ((fits o f m x r).nominated_fit (path_base O p) t))

  -- what evidence gives for a term stands at the source, ownership and contract apart
  pub ownership_read : (h s term : ℕ) → h < 8 → s < 16 → term < terms → read_at figure_slots 0 f h s (ownership_slot + term) ≡ coverage term (L.evidence.entry h s ownership)
  unfolding figure_groups slots_of
  ownership_read h s term a b l = shown 7 ownership_slot terms 0 (λ h s n. coverage n (L.evidence.entry h s ownership)) refl (omega arith) refl h s term a b l ∙ ap (λ n. coverage n (L.evidence.entry h s ownership)) (add-zero term)

  pub contract_read : (h s term : ℕ) → h < 8 → s < 16 → term < terms → read_at figure_slots 0 f h s (contract_slot + term) ≡ coverage term (L.evidence.entry h s contract)
  unfolding figure_groups slots_of
  contract_read h s term a b l = shown 8 contract_slot terms 0 (λ h s n. coverage n (L.evidence.entry h s contract)) refl (omega arith) refl h s term a b l ∙ ap (λ n. coverage n (L.evidence.entry h s contract)) (add-zero term)

  -- whether it is ten-year evidence, ownership first
  pub ten_year_read : (h s j : ℕ) → h < 8 → s < 16 → j < evidence_kinds → read_at figure_slots 0 f h s (ten_year_slot + j) ≡ flag (is_ten_year (L.evidence.entry h s (j + 1)))
  unfolding figure_groups slots_of
  ten_year_read h s j a b l = shown 9 ten_year_slot evidence_kinds 1 (λ h s kind. flag (is_ten_year (L.evidence.entry h s kind))) refl (omega arith) refl h s j a b l

  pub evidence_fits_lem : (h s kind term : ℕ) → entry_kw term (L.evidence.entry h s kind) ≤ max_kw
  evidence_fits_lem h s kind term = entry_le max_kw term (L.evidence.entry h s kind) ((fits o f m x r).evidence_fits h s kind)

  pub coverage_fits : (h s kind term : ℕ) → coverage term (L.evidence.entry h s kind) ≤ max_kw + 1
  coverage_fits h s kind term = let kw = evidence_fits_lem h s kind term in let most = coverage_le term (L.evidence.entry h s kind) in omega arith

  -- the figures of one holder, within what all holders have together
  pub load_fits : (h s t : ℕ) → h < O.holders → L.loads.kw h s t ≤ max_together
  unfolding load_sum
  load_fits h s t l = one_fits (λ i. L.loads.kw i s t) O.holders max_together h l ((fits o f m x r).loads_fit s t)

  one_of_all : (h : ℕ) → h < O.holders → (v : ℕ → ℕ) → sum_to O.holders v ≤ max_together → v h ≤ max_figure
  one_of_all h l v within = le_trans (one_fits v O.holders max_together h l within) (omega arith)

  each_within : (h p : ℕ) → h < O.holders → p < O.paths → EachWithin max_figure (figure_groups L) h p
  unfolding figure_groups carried_sum awarded_sum
  each_within h p l k =
      let all = fits o f m x r in
      let one = one_of_all h l in (
        λ j i. le_trans (load_fits h p (j + 0) l) (omega arith),
        (
          λ j i. one (λ y. L.priors.allocated y p) (all.allocated_fit p),
          (
            λ j i. one (λ y. L.priors.remaining y p) (all.remaining_fit p),
            (
              λ j i. one (λ y. L.rights.carried y p (j + 1)) (all.carried_fit p (j + 1)),
              (
                λ j i. one_fits (λ y. L.rights.awarded y p (j + 1)) O.holders max_figure h l (all.awarded_fit p (j + 1) k),
                (
                  λ j i. le_trans (nominated_fits h p l k) (omega arith),
                  (
                    λ j i. one (λ y. L.tiers.awards y p (j + 0)) (all.awards_fit p (j + 0) k),
                    (
                      λ j i. le_trans (coverage_fits h p ownership (j + 0)) (omega arith),
                      (
                        λ j i. le_trans (coverage_fits h p contract (j + 0)) (omega arith),
                        (
                          λ j i. le_trans (flag_le (is_ten_year (L.evidence.entry h p (j + 1)))) (omega arith),
                          tt,
                        ),
                      ),
                    ),
                  ),
                ),
              ),
            ),
          ),
        ),
      )

  pub figure_fits : (h p slot : ℕ) → h < O.holders → p < O.paths → slot < figure_slots → read_at figure_slots 0 f h p slot ≤ max_figure
  figure_fits h p slot l k in_row =
      le_trans (le_of_eq ((figures_shown o f m x r).each h p slot (record { holder = le_trans l (counts o f m x r).0; place = le_trans k (counts o f m x r).3; in_row = in_row })))
      (within_slot max_figure (figure_groups L) h p slot (each_within h p l k))

  pub summable : (h slot : ℕ) → h < O.holders → slot < figure_slots → Summable o f h slot
  summable h slot l in_row =
      record {
        bases = bases_known o f m x r;
        few = (counts o f m x r).3;
        holder = le_trans l (counts o f m x r).0;
        in_row = in_row;
        each = λ p k. figure_fits h p slot l k in_row;
      }
