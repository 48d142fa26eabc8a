-- What the functions of this crate need of a book's arrays and of the numbers that they are called with.
use Rattle.records.specs.declared.setup.KeptOpening.{KeptOpening}
use Rattle.std.specs.Prelude.{ℕ, ◌≤◌, ◌<◌, List}
use Rattle.tariff.specs.Sizes.{long_term_step}
use Rattle.tariff.specs.Ranges.{max_kw}
use Rattle.records.specs.Opening.{opening_in}
use Rattle.slots.specs.Steps.{ReachableFigures}

-- for usage in tier 0 to 10: a holder in the book
pub record UsageInputs (o : KeptOpening) (f : List ℕ) (h tier : ℕ) : Type 0 where
  pub figures : ReachableFigures o f
  pub holder : h < (opening_in o).holders
  pub last : tier ≤ long_term_step

-- a nomination of a holder and a path in the book, with a kW that is not above the highest
pub record NominationInputs (o : KeptOpening) (f : List ℕ) (h p kw : ℕ) : Type 0 where
  pub figures : ReachableFigures o f
  pub holder : h < (opening_in o).holders
  pub path : p < (opening_in o).paths
  pub high : kw ≤ max_kw

-- a holder and two paths in the book
pub record PathPair (o : KeptOpening) (f : List ℕ) (h p q : ℕ) : Type 0 where
  pub figures : ReachableFigures o f
  pub holder : h < (opening_in o).holders
  pub first : p < (opening_in o).paths
  pub second : q < (opening_in o).paths
