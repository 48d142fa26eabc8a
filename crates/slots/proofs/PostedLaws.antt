-- What was posted, looked for by a slot and as the ledger in the arrays has it by a number. Assumes nothing.
use Prim.Native.Nat.{ℕ, ◌+◌, ◌-◌, ◌≤◌, ◌<◌, zero-le}
use mathlib.Core.Path.{◌≡◌, sym, ap, ◌∙◌}
use mathlib.Core.Bool.{Bool, true, false, cond, ◌&&◌, and-true}
use mathlib.Core.List.{List}
use native.Mathlib.Omega.{arith}
use lib.Dec.{ltb}
use borrow.Author.Tests.{lt-ltb, le-leb}
use Rattle.slots.specs.Cells.{read_at, look_at}
use Rattle.slots.specs.Groups.{in_group, figure_from}
use Rattle.slots.specs.Layout.{posted_slots, is_posted_in}

module _ (m : List Bool) (h p from count low k : ℕ) where
  -- a number that the group has
  pub posted_number : from + count ≤ posted_slots → low ≤ k → k < low + count → look_at posted_slots false m h p (from + (k - low)) ≡ is_posted_in m from count low h p k
  unfolding look_at is_posted_in figure_from in_group
  posted_number fits above below =
      (λ i. cond (ltb h 8 && ltb p 16 && lt-ltb (from + (k - low)) posted_slots (omega arith) i) there false)
      ∙ (λ i. cond (sym (and-true (ltb h 8 && ltb p 16 && true)) i) there false)
      ∙ (λ i. cond (ltb h 8 && ltb p 16 && sym (le-leb low k above) i && sym (lt-ltb k (low + count) below) i) there false)
    where
      there : Bool
      there = read_at posted_slots false m h p (from + (k - low))

-- a posting by a number from 0, and one that has no number
pub posted_from_zero : (m : List Bool) (h p from count k : ℕ) → from + count ≤ posted_slots → k < count → look_at posted_slots false m h p (from + k) ≡ is_posted_in m from count 0 h p k
posted_from_zero m h p from count k fits below = ap (look_at posted_slots false m h p) (let e : from + k ≡ from + (k - 0) = omega arith in e) ∙ posted_number m h p from count 0 k fits zero-le (omega arith)

pub posted_one : (m : List Bool) (h p from : ℕ) → from < posted_slots → look_at posted_slots false m h p from ≡ is_posted_in m from 1 0 h p 0
posted_one m h p from l = ap (look_at posted_slots false m h p) (let e : from ≡ from + 0 = omega arith in e) ∙ posted_from_zero m h p from 1 0 (omega arith) (omega arith)
