-- Cause 18 as code finds it in the Long Term step. Assumes nothing.
use Prim.Native.Nat.{ℕ, ◌+◌, ◌<◌}
use mathlib.Core.Path.{◌≡◌, sym, ap, ◌∙◌, ap₂}
use mathlib.Core.Bool.{Bool, true, false, ◌&&◌, ◌||◌}
use mathlib.Core.List.{List}
use native.Mathlib.Nat.{le_trans}
use native.Mathlib.Omega.{arith}
use lib.Dec.{leb, ltb, eqb}
use borrow.Author.Tests.{eq-eqb, ne_eqb}
use Rattle.records.specs.declared.setup.KeptOpening.{KeptOpening}
use Rattle.source_evidence.specs.declared.evidence.Entry.{Entry}
use Rattle.tariff.specs.Sizes.{last_month, terms}
use Rattle.tariff.specs.Sum.{when_true}
use Rattle.tariff.specs.declared.settings.Settings.{Settings}
use Rattle.tariff.specs.Eligible.{eligible_without_evidence}
use Rattle.tariff.proofs.Sums.{sum_ext}
use Rattle.ledger.specs.Opening.{Opening, obaalse, holder_kind, path_base, has_base}
use Rattle.ledger.specs.Ledger.{Ledger}
use Rattle.ledger.specs.Limits.{sum_at_base, long_term_at, nominated_at}
use Rattle.ledger.specs.Causes.{needs_ten_year, needs_evidence_at}
use Rattle.records.specs.Opening.{opening_in}
use Rattle.slots.specs.Cells.{read_at}
use Rattle.slots.specs.Layout.{load_slot, carried_slot, nominated_slot, figure_slots, figure_in, ledger_in}
use Rattle.slots.specs.Sums.{on_path}
use Rattle.slots.specs.Steps.{Reachable}
use Rattle.slots.proofs.Reachable.{counts}
use Rattle.slots.proofs.Figures.{by_number, from_zero}
use Rattle.nomination_tests.proofs.UsageLaws.{nominated_now}
use Rattle.nomination_tests.proofs.NominateCauses.{nominated_at_lem}

-- a sum over the paths of a base, by other figures that are the same on them
base_ext : (o : KeptOpening) (b : ℕ) {v w : ℕ → ℕ} → ((p : ℕ) → p < (opening_in o).paths → v p ≡ w p) → sum_at_base (opening_in o) b v ≡ sum_at_base (opening_in o) b w
unfolding sum_at_base
base_ext o b same = sum_ext (opening_in o).paths (λ p k. ap (when_true (has_base (opening_in o) b p)) (same p k))

module _ (o : KeptOpening) (f : List ℕ) (m : List Bool) (x : List Entry) where
  abbrev O : Opening
  O = opening_in o

  abbrev L : Ledger
  L = ledger_in f m x

  -- ten-year evidence is needed by a holder who is no OBAALSE above what the step gives of its load without it
  pub above_without : (r : Reachable o f m x) (settings : Settings) (h b kw load nominated carried without : ℕ) → (l : h < O.holders) → b < 16 → eqb (holder_kind O h) obaalse ≡ false → load ≡ read_at figure_slots 0 f h b load_slot → nominated ≡ sum_at_base O b (on_path f h nominated_slot) → carried ≡ sum_at_base O b (on_path f h carried_slot) → settings ≡ O.settings → without ≡ eligible_without_evidence settings load → ltb without (nominated + kw + carried) ≡ needs_ten_year O L L.tiers.current_tier h b kw
  unfolding needs_ten_year long_term_at ledger_in
  above_without r settings h b kw load nominated carried without l place is of_load n lt set q =
      (λ i. ltb ((q ∙ ap₂ eligible_without_evidence set (of_load ∙ from_zero f load_slot terms h b 0 holder place (omega arith))) i) ((n ∙ nominated_at_lem o f m x r h l b) i + kw + (lt ∙ month-1) i))
      ∙ sym (ap (λ u. u || ltb (eligible_without_evidence O.settings (L.loads.kw h b 0)) (nominated_at O L h b L.tiers.current_tier + kw + long_term_at O L h b 1)) is)
    where
      holder : h < 8
      holder = le_trans l (counts o f m x r).0

      month-1 : sum_at_base O b (on_path f h carried_slot) ≡ sum_at_base O b (λ p. figure_in f carried_slot last_month 1 h p 1)
      month-1 = base_ext o b (λ p k. by_number f carried_slot last_month h p 1 holder (le_trans k (counts o f m x r).3) 1 (omega arith) (omega arith))

  -- the paths at whose source it is needed: this one ..
  pub needed_here : (tier h p q : ℕ) → q ≡ p → true ≡ needs_evidence_at O L tier h p q
  unfolding needs_evidence_at
  needed_here tier h p q e = sym (ap (λ t. t || (has_base O (path_base O p) q && leb 1 (L.tiers.nominated h q tier))) (eq-eqb q p e))

  -- .. and each at its base that the holder has nominated on
  pub needed_there : (h p q base there nominated : ℕ) → h < 8 → q < 16 → (q ≡ p → ⊥) → there ≡ path_base O q → base ≡ path_base O p → nominated ≡ read_at figure_slots 0 f h q nominated_slot → (eqb there base && leb 1 nominated) ≡ needs_evidence_at O L L.tiers.current_tier h p q
  unfolding needs_evidence_at has_base ledger_in
  needed_there h p q base there nominated a b ne e g n =
      (λ i. eqb (e i) (g i) && leb 1 ((n ∙ nominated_now f m x h q a b) i))
      ∙ sym (ap (λ t. t || (eqb (path_base O q) (path_base O p) && leb 1 (L.tiers.nominated h q L.tiers.current_tier))) (ne_eqb q p ne))
