-- Arrays that show groups of slots, after a group of one slot was put to 0 or a number after the cells was stored. Assumes nothing.
use Prim.Native.Nat.{ℕ, ◌+◌, ◌-◌, ◌*◌, ◌≤◌, ◌<◌}
use mathlib.Core.Path.{◌≡◌, sym, ap, ◌∙◌}
use mathlib.Core.Bool.{true, false, cond}
use mathlib.Core.List.{List, [], ◌∷◌, ◌++◌}
use mathlib.Core.Logic.{◌⊎◌, inl, inr}
use native.Mathlib.Omega.{arith}
use lib.ListN.{length, get_or, set, length-set}
use lib.Seq.{get_or-set_same, get_or-set_other}
use lib.Dec.{ltb, eqb}
use borrow.Author.Tests.{ltb-true, ltb-false, eqb-true, eqb-false, eq-eqb, ne_eqb}
use Rattle.tariff.proofs.Tests.{decided}
use Rattle.slots.specs.Cells.{rows, cell_of, read_at, cleared_to, Shows}
use Rattle.slots.specs.Groups.{SlotGroup, slot_group, slots_of, in_slot}
use Rattle.slots.proofs.CellLaws.{cell_below, shows_agree}
use Rattle.slots.proofs.ClearLaws.{shows_cleared}

-- a slot's test, after so many others
later_slot : (slot c n : ℕ) → c ≤ slot → eqb slot (c + n) ≡ eqb (slot - c) n
later_slot slot c n past = go (decided (eqb (slot - c) n))
  where
    go : (eqb (slot - c) n ≡ true) ⊎ (eqb (slot - c) n ≡ false) → eqb slot (c + n) ≡ eqb (slot - c) n
    go (inl e) = eq-eqb slot (c + n) (let q = eqb-true (slot - c) n e in omega arith) ∙ sym e
    go (inr e) = ne_eqb slot (c + n) (λ q. eqb-false (slot - c) n e (omega (arith, q))) ∙ sym e

module _ (after : List (SlotGroup ℕ)) (low : ℕ) (old new : ℕ → ℕ → ℕ → ℕ) (none : (h p k : ℕ) → new h p k ≡ 0) where
  -- the slot of a group put to 0 is that of a figure that is 0 everywhere
  group-cleared : (before : List (SlotGroup ℕ)) (h p slot : ℕ) → cond (eqb slot (slots_of before)) 0 (in_slot 0 (before ++ (slot_group 1 low old ∷ after)) h p slot) ≡ in_slot 0 (before ++ (slot_group 1 low new ∷ after)) h p slot
  unfolding in_slot slots_of
  group-cleared [] h p slot = go (decided (ltb slot 1))
    where
      go : (ltb slot 1 ≡ true) ⊎ (ltb slot 1 ≡ false) → cond (eqb slot 0) 0 (cond (ltb slot 1) (old h p (slot + low)) (in_slot 0 after h p (slot - 1))) ≡ cond (ltb slot 1) (new h p (slot + low)) (in_slot 0 after h p (slot - 1))
      go (inl t) =
          let first = ltb-true slot 1 t in
          ap (λ u. cond u 0 (cond (ltb slot 1) (old h p (slot + low)) (in_slot 0 after h p (slot - 1)))) (eq-eqb slot 0 (omega arith))
          ∙ sym (none h p (slot + low))
          ∙ sym (ap (λ u. cond u (new h p (slot + low)) (in_slot 0 after h p (slot - 1))) t)
      go (inr t) =
          let past = ltb-false slot 1 t in
          (λ i. cond (ne_eqb slot 0 (λ e. omega (arith, e)) i) 0 (cond (t i) (old h p (slot + low)) (in_slot 0 after h p (slot - 1))))
          ∙ sym (ap (λ u. cond u (new h p (slot + low)) (in_slot 0 after h p (slot - 1))) t)
  group-cleared (slot_group c l f ∷ before) h p slot = go (decided (ltb slot c)) (group-cleared before h p (slot - c))
    where
      was : ℕ
      was = in_slot 0 (before ++ (slot_group 1 low old ∷ after)) h p (slot - c)

      is : ℕ
      is = in_slot 0 (before ++ (slot_group 1 low new ∷ after)) h p (slot - c)

      go : (ltb slot c ≡ true) ⊎ (ltb slot c ≡ false) → cond (eqb (slot - c) (slots_of before)) 0 was ≡ is → cond (eqb slot (c + slots_of before)) 0 (cond (ltb slot c) (f h p (slot + l)) was) ≡ cond (ltb slot c) (f h p (slot + l)) is
      go (inl t) ih =
          let here = ltb-true slot c t in
          (λ i. cond (ne_eqb slot (c + slots_of before) (λ e. omega (arith, e)) i) 0 (cond (t i) (f h p (slot + l)) was))
          ∙ sym (ap (λ u. cond u (f h p (slot + l)) is) t)
      go (inr t) ih =
          (λ i. cond (later_slot slot c (slots_of before) (ltb-false slot c t) i) 0 (cond (t i) (f h p (slot + l)) was))
          ∙ ih
          ∙ sym (ap (λ u. cond u (f h p (slot + l)) is) t)

  -- an array with that slot put to 0 in every row
  pub slot_cleared : (width from : ℕ) (before : List (SlotGroup ℕ)) (xs rest : List ℕ) → slots_of before ≡ from → from < width → Shows width 0 xs (in_slot 0 (before ++ (slot_group 1 low old ∷ after))) rest → Shows width 0 (cleared_to width from xs rows) (in_slot 0 (before ++ (slot_group 1 low new ∷ after))) rest
  slot_cleared width from before xs rest at in_row s =
      shows_agree width 0 _ (in_slot 0 (before ++ (slot_group 1 low new ∷ after))) (cleared_to width from xs rows) rest
      (shows_cleared width from (in_slot 0 (before ++ (slot_group 1 low old ∷ after))) xs rest in_row s)
      (λ h p slot c. ap (λ n. cond (eqb slot n) 0 (in_slot 0 (before ++ (slot_group 1 low old ∷ after)) h p slot)) (sym at) ∙ group-cleared before h p slot)

-- a number stored after the cells
pub shows_past : {A : Type 0} (width : ℕ) (none v : A) (f : ℕ → ℕ → ℕ → A) (xs rest : List A) (k : ℕ) → k < length rest → Shows width none xs f rest → Shows width none (set xs (rows * width + k) v) f (set rest k v)
unfolding read_at
shows_past width none v f xs rest k there s =
    record {
      sized = length-set xs (rows * width + k) v ∙ s.sized ∙ ap (λ n. rows * width + n) (sym (length-set rest k v));
      each = λ h p slot c. get_or-set_other xs (rows * width + k) (cell_of width h p slot) v none (λ e. let l = cell_below width h p slot c in omega (arith, e)) ∙ s.each h p slot c;
      tail = λ j. go j (decided (eqb j k));
    }
  where
    go : (j : ℕ) → (eqb j k ≡ true) ⊎ (eqb j k ≡ false) → get_or (set xs (rows * width + k) v) (rows * width + j) none ≡ get_or (set rest k v) j none
    go j (inl e) =
        let same = eqb-true j k e in
        ap (λ n. get_or (set xs (rows * width + k) v) (rows * width + n) none) same
        ∙ get_or-set_same xs (rows * width + k) v none (let long = s.sized in omega arith)
        ∙ sym (get_or-set_same rest k v none there)
        ∙ ap (λ n. get_or (set rest k v) n none) (sym same)
    go j (inr e) =
        let other = eqb-false j k e in
        get_or-set_other xs (rows * width + k) (rows * width + j) v none (λ q. other (omega (arith, q)))
        ∙ s.tail j
        ∙ sym (get_or-set_other rest k j v none other)
