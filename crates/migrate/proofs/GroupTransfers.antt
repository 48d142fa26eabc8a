-- Figures of which columns are put through a function of place and slot, group by group. Assumes nothing.
use Prim.Native.Nat.{ℕ, ◌+◌, ◌-◌, ◌≤◌, ◌<◌}
use mathlib.Core.Path.{◌≡◌, sym, ap, ◌∙◌}
use mathlib.Core.Bool.{true, false, cond}
use mathlib.Core.List.{List, [], ◌∷◌}
use mathlib.Core.Logic.{◌⊎◌, inl, inr}
use native.Mathlib.Omega.{arith}
use lib.Dec.{ltb}
use borrow.Author.Tests.{ltb-true, ltb-false}
use Rattle.tariff.proofs.Tests.{decided}
use Rattle.slots.specs.Groups.{SlotGroup, slot_group, slots_of, in_slot}

-- a group whose figure changes
pub data Change : Type 0 where
  change : (count low : ℕ) (old new : ℕ → ℕ → ℕ → ℕ) → Change

unfoldable pub before : List Change → List (SlotGroup ℕ)
before [] = []
before (change count low old new ∷ later) = slot_group count low old ∷ before later

unfoldable pub afterwards : List Change → List (SlotGroup ℕ)
afterwards [] = []
afterwards (change count low old new ∷ later) = slot_group count low new ∷ afterwards later

module _ (column : ℕ → ℕ → (ℕ → ℕ) → ℕ → ℕ) (h p : ℕ) where
  -- each figure is put through the function of its slot; the first group's slots begin at `from`
  abbrev pub EachMoves : ℕ → List Change → Type 0
  EachMoves from [] = Unit {0}
  EachMoves from (change count low old new ∷ later) = ((j : ℕ) → j < count → column p (from + j) (λ i. old i p (j + low)) h ≡ new h p (j + low)) × EachMoves (from + count) later

  -- so is what stands in any slot
  pub slot_moves_lem : (from slot : ℕ) (changes : List Change) → slot < slots_of (before changes) → EachMoves from changes → column p (from + slot) (λ i. in_slot 0 (before changes) i p slot) h ≡ in_slot 0 (afterwards changes) h p slot
  unfolding in_slot before afterwards slots_of
  slot_moves_lem from slot [] l each = absurd (let z : ⊥ = omega arith in z)
  slot_moves_lem from slot (change count low old new ∷ later) l each = go (decided (ltb slot count)) (λ past. slot_moves_lem (from + count) (slot - count) later (omega (arith, past)) each.1)
    where
      go : (ltb slot count ≡ true) ⊎ (ltb slot count ≡ false) → (count ≤ slot → column p (from + count + (slot - count)) (λ i. in_slot 0 (before later) i p (slot - count)) h ≡ in_slot 0 (afterwards later) h p (slot - count)) → column p (from + slot) (λ i. cond (ltb slot count) (old i p (slot + low)) (in_slot 0 (before later) i p (slot - count))) h ≡ cond (ltb slot count) (new h p (slot + low)) (in_slot 0 (afterwards later) h p (slot - count))
      go (inl t) ih =
          (λ k. column p (from + slot) (λ i. cond (t k) (old i p (slot + low)) (in_slot 0 (before later) i p (slot - count))) h)
          ∙ each.0 slot (ltb-true slot count t)
          ∙ sym (ap (λ u. cond u (new h p (slot + low)) (in_slot 0 (afterwards later) h p (slot - count))) t)
      go (inr t) ih =
          let past = ltb-false slot count t in
          (λ k. column p (from + slot) (λ i. cond (t k) (old i p (slot + low)) (in_slot 0 (before later) i p (slot - count))) h)
          ∙ ap (λ n. column p n (λ i. in_slot 0 (before later) i p (slot - count)) h) (let same : from + slot ≡ from + count + (slot - count) = omega arith in same)
          ∙ ih past
          ∙ sym (ap (λ u. cond u (new h p (slot + low)) (in_slot 0 (afterwards later) h p (slot - count))) t)
