-- Causes found one after the other: each that is met returns its number at once. Assumes nothing.
use Prim.Native.Nat.{ℕ}
use mathlib.Core.Path.{◌≡◌, sym, ap, ◌∙◌}
use mathlib.Core.Bool.{Bool, true, false, cond}
use mathlib.Core.List.{List, ◌∷◌}
use Rattle.ledger.specs.Numbers.{Cause, cause, first_met}

-- a cause that is met ends the search, and one that is not leaves it to the later ones
pub met_first : (number : ℕ) (test : Bool) (rows : List Cause) → test ≡ true → number ≡ first_met (cause number test ∷ rows)
unfolding first_met
met_first number test rows e = sym (ap (λ t. cond t number (first_met rows)) e)

pub unmet_first : (number : ℕ) (test : Bool) (rows : List Cause) {r : ℕ} → test ≡ false → r ≡ first_met rows → r ≡ first_met (cause number test ∷ rows)
unfolding first_met
unmet_first number test rows {r} e later = later ∙ sym (ap (λ t. cond t number (first_met rows)) e)
