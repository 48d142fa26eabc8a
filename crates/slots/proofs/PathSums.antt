-- Sums over the paths of a book: how much they come to, and what a path that is summed has. Assumes nothing.
use Prim.Native.Nat.{ℕ, ◌*◌, ◌≤◌, ◌<◌}
use mathlib.Core.Bool.{Bool}
use mathlib.Core.List.{List}
use native.Mathlib.Nat.{le_trans}
use native.Mathlib.Omega.{arith}
use Rattle.records.specs.declared.setup.KeptOpening.{KeptOpening}
use Rattle.tariff.specs.Sum.{when_true, sum_to}
use Rattle.tariff.proofs.Sums.{when_le}
use Rattle.ledger.specs.Opening.{has_base, has_source}
use Rattle.ledger.specs.Limits.{sum_at_base}
use Rattle.ledger.specs.Verification.{sum_from_source}
use Rattle.ledger.proofs.Bounds.{paths_fit}
use Rattle.records.specs.Opening.{opening_in, KeepsBases}
use Rattle.slots.specs.Cells.{HasCell}
use Rattle.slots.specs.Layout.{figure_slots}
use Rattle.slots.specs.Sums.{on_path, max_figure, Summable}

module _ (test : ℕ → Bool) (f : ℕ → ℕ) (n most : ℕ) (few : n ≤ 16) (each : (p : ℕ) → p < n → f p ≤ most) where
  pub counted_fits : sum_to n (λ p. when_true (test p) (f p)) ≤ 16 * most
  counted_fits = paths_fit (λ p. when_true (test p) (f p)) n most few (λ p l. le_trans (when_le (test p) (f p)) (each p l))

module _ (o : KeptOpening) (f : List ℕ) (h slot place : ℕ) (s : Summable o f h slot) where
  -- the whole sums
  pub base_sum_fits : sum_at_base (opening_in o) place (on_path f h slot) ≤ 16 * max_figure
  unfolding sum_at_base
  base_sum_fits = counted_fits (has_base (opening_in o) place) (on_path f h slot) (opening_in o).paths max_figure s.few s.each

  pub source_sum_fits : sum_from_source (opening_in o) place (on_path f h slot) ≤ 16 * max_figure
  unfolding sum_from_source
  source_sum_fits = counted_fits (has_source (opening_in o) place) (on_path f h slot) (opening_in o).paths max_figure s.few s.each

module _ (o : KeptOpening) (f : List ℕ) (h slot : ℕ) (s : Summable o f h slot) (p : ℕ) (l : p < (opening_in o).paths) where
  -- the cell on a path
  pub path_cell : HasCell figure_slots h p slot
  path_cell = record { holder = s.holder; place = let a = s.few in omega arith; in_row = s.in_row }

  -- the base of a path
  pub base_inputs : KeepsBases o × (p < 16)
  base_inputs = (s.bases, let a = s.few in omega arith)
