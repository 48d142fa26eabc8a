-- An array that a closure makes cell by cell, where a call leaves the closure as it was: when the closure may be called, and what the array holds. Assumes nothing.
use Rattle.std.proofs.Common.{◌≡◌, ℕ, zero, suc, ◌+◌, ◌<◌, List, get_or, ap, sym, ◌∙◌, subst, refl, arith}
use denote.Param.Members.{Mut, Called}
use Rattle.std.specs.Iterator.{CallableAtEachTurn}
use Rattle.std.proofs.lemmas.Fn.{serves_by}
use Rattle.std.specs.Array.{index_steps, IsFromFnResult, IsFromFnResultFrom}
use Rattle.tariff.specs.Sum.{tabulate}
use Rattle.tariff.proofs.Lists.{entries_are}

module _ {F A : Type 0} (none : A) (g : Mut F (ℕ × Unit {0}) A) (f : F) (cell : ℕ → A) (steps : (k : ℕ) (y : A) (q : F) → Called g f (k, tt) y q → (q ≡ f) × (y ≡ cell k)) where
  cell_at : (ys : List A) (i n : ℕ) (p : F) → p ≡ f → IsFromFnResultFrom g p ys i n → (k : ℕ) → k < n → get_or ys (i + k) none ≡ cell (i + k)
  cell_at ys i zero p e made k l = absurd (omega arith)
  cell_at ys i (suc n) p e (q, y, here, called, rest) zero l =
      let same : i + 0 ≡ i = omega arith in
      let step = steps i y q (subst (λ x. Called g x (i, tt) y q) e called) in
      ap (λ j. get_or ys j none) same ∙ here.1 none ∙ step.1 ∙ ap cell (sym same)
  cell_at ys i (suc n) p e (q, y, here, called, rest) (suc k) l =
      let same : i + suc k ≡ i + 1 + k = omega arith in
      let step = steps i y q (subst (λ x. Called g x (i, tt) y q) e called) in
      ap (λ j. get_or ys j none) same ∙ cell_at ys (i + 1) n q step.0 rest k (omega arith) ∙ ap cell (sym same)

  pub made_entries : (n : ℕ) (ys : List A) → IsFromFnResult g f ys n → ys ≡ tabulate n cell
  made_entries n ys made = entries_are none n cell ys made.long (λ k l. let same : 0 + k ≡ k = omega arith in ap (λ j. get_or ys j none) (sym same) ∙ cell_at ys 0 n f refl made.each k l ∙ ap cell same)

-- the same of numbers
pub made_list : {F : Type 0} (g : Mut F (ℕ × Unit {0}) ℕ) (f : F) (cell : ℕ → ℕ) → ((k y : ℕ) (q : F) → Called g f (k, tt) y q → (q ≡ f) × (y ≡ cell k)) → (n : ℕ) (ys : List ℕ) → IsFromFnResult g f ys n → ys ≡ tabulate n cell
made_list = made_entries 0

-- the closure may be called for every cell
pub made_callable : {F : Type 0} {R : F → ℕ → F → Type 0} {Q : F → ℕ → Type 0} (n : ℕ) (f : F) → ((k : ℕ) (q : F) → R f k q → q ≡ f) → ((k : ℕ) → k < n → Q f k) → CallableAtEachTurn (index_steps n) R Q 0 f
made_callable {F} {R} {Q} n f keeps needs =
    serves_by R (λ xs q. q ≡ f) (λ xs q k v e r. keeps k v (subst (λ p. R p k v) e r)) (index_steps n) Q 0 f refl
    (λ xs t q k u yields step e. subst (λ p. Q p k) (sym e) (needs k (let below = step.0 in let is = step.1 in omega arith)))
