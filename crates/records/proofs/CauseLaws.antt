-- Laws of the causes, in the form in which code finds them. Assumes nothing.
use Prim.Native.Nat.{ℕ, zero, suc}
use mathlib.Core.Path.{◌≡◌, refl}
use mathlib.Core.Bool.{true, false}
use mathlib.Core.List.{List, [], ◌∷◌}
use lib.ListN.{take}
use Rattle.ledger.specs.Numbers.{Cause, cause, first_met}

pub no_more : 0 ≡ first_met []
unfolding first_met
no_more = refl

-- the first causes of a list, where one of them is met
pub first_part : (k : ℕ) (rows : List Cause) → (first_met (take k rows) ≡ 0 → ⊥) → first_met (take k rows) ≡ first_met rows
unfolding first_met
first_part zero rows ne = absurd (ne refl)
first_part (suc k) [] ne = refl
first_part (suc k) (cause number true ∷ rows) ne = refl
first_part (suc k) (cause number false ∷ rows) ne = first_part k rows ne
