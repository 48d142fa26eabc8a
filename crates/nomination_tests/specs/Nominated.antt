-- What contracts see of a nomination, and how they speak of it.
use Rattle.records.specs.declared.setup.KeptOpening.{KeptOpening}
use Rattle.std.specs.Prelude.{ℕ, List}
use Rattle.ledger.specs.Opening.{Opening}
use Rattle.ledger.specs.Ledger.{Ledger}
use Rattle.slots.specs.Steps.{InFigures}

-- the opening and the figures that are lent, and who asks for how much on which path
pub record Nominated : Type 0 where
  pub opening : KeptOpening
  pub figures : List ℕ
  pub holder : ℕ
  pub path : ℕ
  pub kw : ℕ

-- what holds of a nomination, whatever stands in the arrays that are not lent
abbrev pub InNomination : Nominated → (Opening → Ledger → (h p kw : ℕ) → Type 0) → Type 0
InNomination n P = InFigures n.opening n.figures (λ O L. P O L n.holder n.path n.kw)
