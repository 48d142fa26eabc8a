-- Which slots move in a term, as the ledger's tests on months have it. Assumes nothing.
use Prim.Native.Nat.{ℕ, ◌+◌, ◌≤◌, ◌<◌}
use mathlib.Core.Path.{◌≡◌, refl, sym}
use mathlib.Core.Bool.{Bool, true, false, cond, not, ◌&&◌}
use mathlib.Core.Logic.{◌⊎◌, inl, inr}
use native.Mathlib.Omega.{arith}
use lib.Dec.{eqb}
use Rattle.tariff.specs.Sizes.{last_month, last_term, terms}
use Rattle.tariff.specs.Sum.{all_below}
use Rattle.tariff.specs.Terms.{is_month, has_month}
use Rattle.tariff.proofs.Tests.{all_below_lem, decided}
use Rattle.ledger.specs.Opening.{Opening}
use Rattle.slots.specs.Layout.{prior_allocated_slot, prior_remaining_slot, carried_slot, awarded_slot, nominated_slot}
use Rattle.transfers.specs.Transfers.{slot_moves, moves_at}
use Rattle.transfers.proofs.MovingLaws.{moving_slot}

-- two tests come out alike
abbrev alike : Bool → Bool → Bool
alike a b = cond a b (not b)

alike_same : (a b : Bool) → alike a b ≡ true → a ≡ b
alike_same true b e = sym e
alike_same false true e = e
alike_same false false e = refl

-- tests on a term and a slot's number, looked through for every term and number
table : (n : ℕ) (s t : ℕ → ℕ → Bool) → all_below terms (λ term. all_below n (λ j. alike (s term j) (t term j))) ≡ true → (term j : ℕ) → term ≤ last_term → j < n → s term j ≡ t term j
table n s t e term j few l = alike_same (s term j) (t term j) (all_below_lem n (λ j. alike (s term j) (t term j)) (all_below_lem terms (λ term. all_below n (λ j. alike (s term j) (t term j))) e term (omega arith)) j l)

pub prior_moves : (term j : ℕ) → term ≤ last_term → j < 1 → slot_moves term (prior_allocated_slot + j) ≡ eqb term 0
unfolding slot_moves all_below
prior_moves = table 1 (λ term j. slot_moves term (prior_allocated_slot + j)) (λ term j. eqb term 0) refl

pub remaining_moves : (term j : ℕ) → term ≤ last_term → j < 1 → slot_moves term (prior_remaining_slot + j) ≡ eqb term 0
unfolding slot_moves all_below
remaining_moves = table 1 (λ term j. slot_moves term (prior_remaining_slot + j)) (λ term j. eqb term 0) refl

pub carried_moves : (term j : ℕ) → term ≤ last_term → j < last_month → slot_moves term (carried_slot + j) ≡ has_month term (j + 1)
unfolding slot_moves all_below has_month is_month
carried_moves = table last_month (λ term j. slot_moves term (carried_slot + j)) (λ term j. has_month term (j + 1)) refl

pub awarded_moves : (term j : ℕ) → term ≤ last_term → j < last_month → slot_moves term (awarded_slot + j) ≡ (has_month term (j + 1) && not (eqb term 0))
unfolding slot_moves all_below has_month is_month
awarded_moves = table last_month (λ term j. slot_moves term (awarded_slot + j)) (λ term j. has_month term (j + 1) && not (eqb term 0)) refl

-- no other slot moves
pub still : (o : Opening) (term sink p slot : ℕ) → term ≤ last_term → (slot < prior_allocated_slot) ⊎ (nominated_slot ≤ slot) → moves_at o term sink p slot ≡ false
still o term sink p slot few outside = go (decided (moves_at o term sink p slot)) outside
  where
    go : (moves_at o term sink p slot ≡ true) ⊎ (moves_at o term sink p slot ≡ false) → (slot < prior_allocated_slot) ⊎ (nominated_slot ≤ slot) → moves_at o term sink p slot ≡ false
    go (inr off) out = off
    go (inl on) (inl l) = let range = moving_slot o term sink p slot few on in absurd (let z : ⊥ = omega arith in z)
    go (inl on) (inr l) = let range = moving_slot o term sink p slot few on in absurd (let z : ⊥ = omega arith in z)
