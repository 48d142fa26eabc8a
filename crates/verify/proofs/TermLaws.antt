-- An entry's coverage of terms 0 to 3, stored term by term: what the terms' slots show. Assumes nothing.
use Prim.Native.Nat.{ℕ, zero, suc, ◌+◌, ◌≤◌, ◌<◌}
use mathlib.Core.Path.{◌≡◌, refl}
use mathlib.Core.Bool.{Bool, true, false, cond, ◌&&◌}
use mathlib.Core.List.{List, ◌∷◌, ◌++◌}
use native.Mathlib.Omega.{arith}
use lib.Dec.{eqb}
use Rattle.source_evidence.specs.declared.evidence.Entry.{Entry}
use Rattle.tariff.specs.Sizes.{terms}
use Rattle.ledger.specs.Effects.{same2, same3}
use Rattle.slots.specs.Cells.{Shows}
use Rattle.slots.specs.Groups.{SlotGroup, slot_group, slots_of, in_slot}
use Rattle.slots.specs.Coverage.{coverage}
use Rattle.slots.specs.Layout.{figure_slots}
use Rattle.slots.proofs.StoreLaws.{slot_stored}
use Rattle.verify.specs.StoredEntry.{stored_below, stored_by_term}

-- four values, one to a term, are the value of the term
by_term : (here : Bool) (v : ℕ → ℕ) (old t : ℕ) → t < 4 → cond here (v t) old ≡ cond (here && eqb t 3) (v 3) (cond (here && eqb t 2) (v 2) (cond (here && eqb t 1) (v 1) (cond (here && eqb t 0) (v 0) old)))
by_term false v old t l = refl
by_term true v old zero l = refl
by_term true v old (suc zero) l = refl
by_term true v old (suc (suc zero)) l = refl
by_term true v old (suc (suc (suc zero))) l = refl
by_term true v old (suc (suc (suc (suc t)))) l = absurd (omega arith)

module _ (before after : List (SlotGroup ℕ)) (from : ℕ) (old : ℕ → ℕ → ℕ → ℕ) (f rest : List ℕ) (h s : ℕ) (entry : Entry) (at : slots_of before ≡ from) (fits : from + terms ≤ figure_slots) (a : h < 8) (b : s < 16) where
  -- one term's value stored
  abbrev one : ℕ → (ℕ → ℕ → ℕ → ℕ) → ℕ → ℕ → ℕ → ℕ
  one term g x y t = cond (same3 h s term x y t) (coverage term entry) (g x y t)

  -- a group by term shows the entry's coverage where it was stored
  pub terms_stored : Shows figure_slots 0 f (in_slot 0 (before ++ (slot_group terms 0 old ∷ after))) rest → Shows figure_slots 0 (stored_by_term f h s from entry) (in_slot 0 (before ++ (slot_group terms 0 (λ x y t. cond (same2 h s x y) (coverage t entry) (old x y t)) ∷ after))) rest
  unfolding stored_by_term stored_below same2 same3
  terms_stored shown =
      slot_stored 0 figure_slots from terms 0 before after at fits (one 2 (one 1 (one 0 old))) _ _ rest h s 3 (coverage 3 entry) a b (omega arith)
      (λ x y t low high. by_term (eqb x h && eqb y s) (λ n. coverage n entry) (old x y t) t (omega arith))
      (slot_stored 0 figure_slots from terms 0 before after at fits (one 1 (one 0 old)) (one 2 (one 1 (one 0 old))) _ rest h s 2 (coverage 2 entry) a b (omega arith) (λ x y t low high. refl)
      (slot_stored 0 figure_slots from terms 0 before after at fits (one 0 old) (one 1 (one 0 old)) _ rest h s 1 (coverage 1 entry) a b (omega arith) (λ x y t low high. refl)
      (slot_stored 0 figure_slots from terms 0 before after at fits old (one 0 old) f rest h s 0 (coverage 0 entry) a b (omega arith) (λ x y t low high. refl) shown)))
