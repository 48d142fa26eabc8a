-- What limits and evidence need of a book's arrays and of the numbers that they are asked for with.
use Rattle.records.specs.declared.setup.KeptOpening.{KeptOpening}
use Rattle.std.specs.Prelude.{ℕ, ◌≤◌, ◌<◌, List}
use Rattle.tariff.specs.Sizes.{long_term_step}
use Rattle.records.specs.Opening.{opening_in}
use Rattle.slots.specs.Cells.{max_places}
use Rattle.slots.specs.Steps.{ReachableFigures}

-- for a limit: tier 0 to 10, a holder in the book, a base below 16
pub record LimitInputs (o : KeptOpening) (f : List ℕ) (tier h base : ℕ) : Type 0 where
  pub figures : ReachableFigures o f
  pub last : tier ≤ long_term_step
  pub holder : h < (opening_in o).holders
  pub place : base < max_places

-- for evidence: a holder in the book, a source below 16
pub record SourceInputs (o : KeptOpening) (f : List ℕ) (h s : ℕ) : Type 0 where
  pub figures : ReachableFigures o f
  pub holder : h < (opening_in o).holders
  pub place : s < max_places

-- for evidence over all sources, and for usage in the open tier: a holder in the book
pub record HolderInputs (o : KeptOpening) (f : List ℕ) (h : ℕ) : Type 0 where
  pub figures : ReachableFigures o f
  pub holder : h < (opening_in o).holders
