-- What a holder uses of its evidence for a source: sums over the paths and over the tiers before, and their bounds. Assumes nothing.
use Prim.Native.Nat.{ℕ, ◌+◌, ◌*◌, ◌≤◌, ◌<◌}
use mathlib.Core.Path.{◌≡◌, refl, sym, ap, ◌∙◌}
use mathlib.Core.Bool.{Bool, cond}
use mathlib.Core.List.{List}
use native.Mathlib.Nat.{le_trans, mul-le-mul_right}
use native.Mathlib.Omega.{arith}
use borrow.Author.Tests.{eq-eqb}
use Rattle.records.specs.declared.setup.KeptOpening.{KeptOpening}
use Rattle.tariff.specs.Sizes.{long_term_step}
use Rattle.source_evidence.specs.declared.evidence.Entry.{Entry}
use Rattle.tariff.specs.Sum.{when_true, sum_to}
use Rattle.tariff.proofs.Sums.{when_le, sum_ext, sum_bound}
use Rattle.ledger.specs.Opening.{Opening, has_source}
use Rattle.ledger.specs.Ledger.{Ledger}
use Rattle.ledger.specs.Verification.{sum_from_source, uses_same_evidence, used_before, source_usage}
use Rattle.records.specs.Opening.{opening_in}
use Rattle.slots.specs.Cells.{read_at}
use Rattle.slots.specs.Layout.{nominated_slot, awards_slot, tier_slots, figure_slots, current_tier_in, figure_in, ledger_in}
use Rattle.slots.specs.Sums.{on_path, max_figure}
use Rattle.slots.specs.Steps.{Reachable}
use Rattle.slots.proofs.Reachable.{counts, sound}
use Rattle.slots.proofs.Figures.{from_zero, summable}
use Rattle.slots.proofs.PathSums.{source_sum_fits}

-- the open tier's nominations stand by themselves
pub nominated_now : (f : List ℕ) (m : List Bool) (x : List Entry) (h p : ℕ) → h < 8 → p < 16 → read_at figure_slots 0 f h p nominated_slot ≡ (ledger_in f m x).tiers.nominated h p (ledger_in f m x).tiers.current_tier
unfolding ledger_in
nominated_now f m x h p a b =
    from_zero f nominated_slot 1 h p 0 a b (omega arith)
    ∙ sym (ap (λ t. cond t (figure_in f nominated_slot 1 0 h p 0) (figure_in f awards_slot tier_slots 0 h p (current_tier_in f))) (eq-eqb (current_tier_in f) (current_tier_in f) refl))

module _ (o : KeptOpening) (f : List ℕ) (m : List Bool) (x : List Entry) (r : Reachable o f m x) (h s : ℕ) (l : h < (opening_in o).holders) where
  abbrev O : Opening
  O = opening_in o

  abbrev L : Ledger
  L = ledger_in f m x

  holder : h < 8
  holder = le_trans l (counts o f m x r).0

  -- a sum from the source, by the ledger's figure
  from-source : (slot : ℕ) (v : ℕ → ℕ) → ((p : ℕ) → p < 16 → on_path f h slot p ≡ v p) → sum_from_source O s (on_path f h slot) ≡ sum_from_source O s v
  unfolding sum_from_source
  from-source slot v e = sum_ext O.paths (λ p k. ap (when_true (has_source O s p)) (e p (le_trans k (counts o f m x r).3)))

  awards-from : (n : ℕ) → n ≤ long_term_step → sum_from_source O s (on_path f h (awards_slot + n)) ≡ sum_from_source O s (λ p. L.tiers.awards h p n)
  unfolding ledger_in
  awards-from n k = from-source (awards_slot + n) _ (λ p i. from_zero f awards_slot tier_slots h p n holder i (omega arith))

  pub nominated_from : sum_from_source O s (on_path f h nominated_slot) ≡ sum_from_source O s (λ p. L.tiers.nominated h p L.tiers.current_tier)
  nominated_from = from-source nominated_slot _ (λ p i. nominated_now f m x h p holder i)

  source_fits : (slot : ℕ) → slot < figure_slots → sum_from_source O s (on_path f h slot) ≤ 16 * max_figure
  source_fits slot k = source_sum_fits o f h slot s (summable o f m x r h slot l k)

  pub nominated_fits : sum_from_source O s (on_path f h nominated_slot) ≤ 16 * max_figure
  nominated_fits = source_fits nominated_slot (omega arith)

  module _ (tier : ℕ) (k : tier ≤ long_term_step) where
    -- the awards of the earlier tiers that use the same evidence
    pub before_is : sum_to tier (λ n. when_true (uses_same_evidence tier n) (sum_from_source O s (on_path f h (awards_slot + n)))) ≡ used_before O L tier h s
    unfolding used_before
    before_is = sum_ext tier (λ n i. ap (when_true (uses_same_evidence tier n)) (awards-from n (omega arith)))

    pub before_fits : sum_to tier (λ n. when_true (uses_same_evidence tier n) (sum_from_source O s (on_path f h (awards_slot + n)))) ≤ long_term_step * (16 * max_figure)
    before_fits =
        le_trans
        (sum_bound {f = λ n. when_true (uses_same_evidence tier n) (sum_from_source O s (on_path f h (awards_slot + n)))} (16 * max_figure) tier (λ n i. le_trans (when_le (uses_same_evidence tier n) _) (source_fits (awards_slot + n) (omega arith))))
        (mul-le-mul_right (16 * max_figure) k)

  -- all that the holder uses in the open tier
  pub usage_fits : source_usage O L L.tiers.current_tier h s ≤ (1 + long_term_step) * (16 * max_figure)
  unfolding source_usage
  usage_fits =
      let one = nominated_fits in
      let is = nominated_from in
      let last = (sound o f m x r).open_last in
      let two = before_fits L.tiers.current_tier last in
      let both = before_is L.tiers.current_tier last in
      omega arith

  -- as code adds it up
  pub usage_is : (tier sum before : ℕ) → tier ≡ current_tier_in f → sum ≡ sum_from_source O s (on_path f h nominated_slot) → before ≡ used_before O L tier h s → sum + before ≡ source_usage O L L.tiers.current_tier h s
  unfolding source_usage ledger_in
  usage_is tier sum before now e g = λ i. (e ∙ nominated_from) i + (g ∙ ap (λ t. used_before O L t h s) now) i
