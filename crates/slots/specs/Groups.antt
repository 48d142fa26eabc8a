-- Groups of slots: what is kept side by side for a holder at a place.
use Rattle.std.specs.Prelude.{ℕ, ◌+◌, ◌-◌, Bool, cond, ◌&&◌, List, [], ◌∷◌, leb, ltb}
use Rattle.slots.specs.Cells.{max_holders, max_places, read_at}

-- one figure's slots: how many there are, the number that the first one stands for, and the figure by holder, place and number
pub data SlotGroup (A : Type 0) : Type 0 where
  slot_group : (count low : ℕ) → (ℕ → ℕ → ℕ → A) → SlotGroup A

module _ {A : Type 0} where
  -- how many slots groups have together
  unfoldable pub slots_of : List (SlotGroup A) → ℕ
  slots_of [] = 0
  slots_of (slot_group count low figure ∷ later) = count + slots_of later

  -- what groups have in a slot
  unfoldable pub in_slot : A → List (SlotGroup A) → ℕ → ℕ → ℕ → A
  in_slot none [] h p slot = none
  in_slot none (slot_group count low figure ∷ later) h p slot = cond (ltb slot count) (figure h p (slot + low)) (in_slot none later h p (slot - count))

-- a holder, a place and a number that a group has a slot for
unfoldable pub in_group : ℕ → ℕ → ℕ → ℕ → ℕ → Bool
in_group count low h p k = ltb h max_holders && ltb p max_places && leb low k && ltb k (low + count)

-- the figure that stands in the slots of a group, which begin at `from`; none where the group has no slot
unfoldable pub figure_from : {A : Type 0} → ℕ → A → List A → (from count low : ℕ) → ℕ → ℕ → ℕ → A
figure_from width none cells from count low h p k = cond (in_group count low h p k) (read_at width none cells h p (from + (k - low))) none
