-- Arrays that show groups of slots, after one slot of a group was stored, added to or noted as posted: the group has another figure, and no other
-- group has. Assumes nothing.
use Prim.Native.Nat.{ℕ, ◌+◌, ◌≤◌, ◌<◌}
use mathlib.Core.Path.{◌≡◌, refl, sym, ap, ◌∙◌}
use mathlib.Core.Bool.{Bool, true, false, cond, ◌&&◌, ◌||◌, and-true}
use mathlib.Core.List.{List, ◌∷◌, ◌++◌}
use mathlib.Core.Logic.{◌⊎◌, inl, inr}
use native.Mathlib.Omega.{arith}
use lib.Dec.{eqb}
use borrow.Author.Tests.{eq-eqb}
use Rattle.tariff.specs.Sum.{when_true}
use Rattle.tariff.proofs.Sums.{when_is_true, when_is_false}
use Rattle.tariff.proofs.Tests.{decided}
use Rattle.ledger.specs.Effects.{same2, same3, plus_at2}
use Rattle.ledger.proofs.TiersSound.{same_place}
use Rattle.slots.specs.Cells.{HasCell, read_at, stored_at, added_at, Shows}
use Rattle.slots.specs.Groups.{SlotGroup, slot_group, slots_of, in_slot}
use Rattle.slots.proofs.CellLaws.{shows_stored, shows_agree}
use Rattle.slots.proofs.GroupLaws.{group_slot, group_stored}

-- a figure with another value in one place, in the slots of its group
abbrev pub StoredIn : {A : Type 0} → (count low h p k : ℕ) → A → (ℕ → ℕ → ℕ → A) → (ℕ → ℕ → ℕ → A) → Type 0
StoredIn count low h p k v old new = (x y n : ℕ) → low ≤ n → n < low + count → new x y n ≡ cond (same3 h p k x y n) v (old x y n)

module _ {A : Type 0} (none : A) (width from count low : ℕ) (before after : List (SlotGroup A)) (at : slots_of before ≡ from) (fits : from + count ≤ width) where
  -- the cell of a group's slot
  pub slot_cell : (h p j : ℕ) → h < 8 → p < 16 → j < count → HasCell width h p (from + j)
  slot_cell h p j a b l = record { holder = a; place = b; in_row = omega arith }

  -- what stands there
  pub slot_shown : (figure : ℕ → ℕ → ℕ → A) (xs rest : List A) (h p j : ℕ) → h < 8 → p < 16 → j < count → Shows width none xs (in_slot none (before ++ (slot_group count low figure ∷ after))) rest → read_at width none xs h p (from + j) ≡ figure h p (j + low)
  slot_shown figure xs rest h p j a b l s =
      s.each h p (from + j) (slot_cell h p j a b l)
      ∙ ap (λ n. in_slot none (before ++ (slot_group count low figure ∷ after)) h p (n + j)) (sym at)
      ∙ group_slot none before after count low figure h p j l

  pub slot_stored : (old new : ℕ → ℕ → ℕ → A) (xs rest : List A) (h p j : ℕ) (v : A) → h < 8 → p < 16 → j < count → StoredIn count low h p (j + low) v old new → Shows width none xs (in_slot none (before ++ (slot_group count low old ∷ after))) rest → Shows width none (stored_at width xs h p (from + j) v) (in_slot none (before ++ (slot_group count low new ∷ after))) rest
  slot_stored old new xs rest h p j v a b l same s =
      shows_agree width none _ (in_slot none (before ++ (slot_group count low new ∷ after))) (stored_at width xs h p (from + j) v) rest
      (shows_stored width none v (in_slot none (before ++ (slot_group count low old ∷ after))) xs rest h p (from + j) s (slot_cell h p j a b l))
      (λ x y slot c. ap (λ n. cond (same3 h p (n + j) x y slot) v (in_slot none (before ++ (slot_group count low old ∷ after)) x y slot)) (sym at) ∙ group_stored none after count low old new h p j v l same before x y slot)

-- kW more, and nothing else
module _ (width from count low : ℕ) (before after : List (SlotGroup ℕ)) (at : slots_of before ≡ from) (fits : from + count ≤ width) where
  pub slot_added : (old new : ℕ → ℕ → ℕ → ℕ) (xs rest : List ℕ) (h p j kw : ℕ) → h < 8 → p < 16 → j < count → ((x y n : ℕ) → low ≤ n → n < low + count → new x y n ≡ old x y n + when_true (same3 h p (j + low) x y n) kw) → Shows width 0 xs (in_slot 0 (before ++ (slot_group count low old ∷ after))) rest → Shows width 0 (added_at width xs h p (from + j) kw) (in_slot 0 (before ++ (slot_group count low new ∷ after))) rest
  unfolding added_at
  slot_added old new xs rest h p j kw a b l same s =
      slot_stored 0 width from count low before after at fits old new xs rest h p j (read_at width 0 xs h p (from + j) + kw) a b l (λ x y n u w. same x y n u w ∙ sym (go x y n (decided (same3 h p (j + low) x y n)))) s
    where
      go : (x y n : ℕ) → (same3 h p (j + low) x y n ≡ true) ⊎ (same3 h p (j + low) x y n ≡ false) → cond (same3 h p (j + low) x y n) (read_at width 0 xs h p (from + j) + kw) (old x y n) ≡ old x y n + when_true (same3 h p (j + low) x y n) kw
      go x y n (inl t) =
          let w = same_place h p (j + low) x y n t in
          let read = slot_shown 0 width from count low before after at fits old xs rest h p j a b l s in
          let here : old x y n ≡ old h p (j + low) = λ i. old (w.0 i) (w.1 i) (w.2 i) in
          let more = when_is_true kw t in
          ap (λ u. cond u (read_at width 0 xs h p (from + j) + kw) (old x y n)) t ∙ (let same : read_at width 0 xs h p (from + j) + kw ≡ old x y n + when_true (same3 h p (j + low) x y n) kw = omega arith in same)
      go x y n (inr t) = ap (λ u. cond u (read_at width 0 xs h p (from + j) + kw) (old x y n)) t ∙ (let none = when_is_false kw t in omega arith)

-- what is noted as posted, by a number and without one
pub number_posted : (count low h p k : ℕ) (old : ℕ → ℕ → ℕ → Bool) → StoredIn count low h p k true old (λ x y n. same3 h p k x y n || old x y n)
number_posted count low h p k old x y n above below = go (same3 h p k x y n) (old x y n)
  where
    go : (t u : Bool) → (t || u) ≡ cond t true u
    go true u = refl
    go false u = refl

-- in a group of one slot its number is no test
one_number : (h p x y n : ℕ) → n < 1 → same3 h p 0 x y n ≡ same2 h p x y
unfolding same3 same2
one_number h p x y n below = ap (λ t. eqb x h && eqb y p && t) (eq-eqb n 0 (omega arith)) ∙ and-true (eqb x h && eqb y p)

pub single_posted : (h p : ℕ) (old : ℕ → ℕ → Bool) → StoredIn 1 0 h p 0 true (λ x y n. old x y) (λ x y n. same2 h p x y || old x y)
single_posted h p old x y n above below =
    ap (λ t. t || old x y) (sym (one_number h p x y n below)) ∙ number_posted 1 0 h p 0 (λ x y n. old x y) x y n above below

pub single_added : (h p kw : ℕ) (old : ℕ → ℕ → ℕ) (x y n : ℕ) → 0 ≤ n → n < 1 → plus_at2 h p kw old x y ≡ old x y + when_true (same3 h p 0 x y n) kw
unfolding plus_at2
single_added h p kw old x y n above below = ap (λ t. old x y + when_true t kw) (sym (one_number h p x y n below))
