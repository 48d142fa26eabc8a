-- kW added month by month: the array that three additions leave, and what it then shows. Assumes nothing.
use Prim.Native.Nat.{ℕ, zero, suc, ◌+◌, ◌-◌, ◌≤◌, ◌<◌}
use mathlib.Core.Path.{◌≡◌, refl, sym, ap, ◌∙◌, subst}
use mathlib.Core.Bool.{Bool, true, false, ◌&&◌}
use mathlib.Core.List.{List, ◌∷◌, ◌++◌}
use mathlib.Core.Logic.{◌⊎◌, inl, inr}
use native.Mathlib.Omega.{arith}
use native.Mathlib.Nat.{add-zero}
use lib.Dec.{eqb}
use borrow.Author.Tests.{eqb-true, eqb-false, eq-eqb, ne_eqb}
use Rattle.tariff.specs.Sum.{when_true}
use Rattle.tariff.specs.Sizes.{last_month}
use Rattle.tariff.specs.Terms.{has_month}
use Rattle.tariff.proofs.Sums.{when_is_false}
use Rattle.tariff.proofs.Tests.{decided, and_right_false}
use Rattle.ledger.specs.Effects.{same2, same3, plus_at3, plus_in_term}
use Rattle.slots.specs.Cells.{added_at, Shows}
use Rattle.slots.specs.Groups.{SlotGroup, slot_group, slots_of, in_slot}
use Rattle.slots.specs.Layout.{figure_slots}
use Rattle.slots.specs.Months.{added_in_term}
use Rattle.slots.proofs.StoreLaws.{slot_added}

-- the array after the additions of so many months
unfoldable pub added_before : List ℕ → (h p from term kw : ℕ) → ℕ → List ℕ
added_before f h p from term kw zero = f
added_before f h p from term kw (suc n) = added_at figure_slots (added_before f h p from term kw n) h p (from + n) (when_true (has_month term (suc n)) kw)

pub added_next : (f now next : List ℕ) (h p from term kw month n v : ℕ) {test : Bool} → n ≡ month - 1 → month ≡ suc n → now ≡ added_before f h p from term kw n → test ≡ has_month term month → v ≡ when_true test kw → next ≡ added_at figure_slots now h p (from + (month - 1)) v → next ≡ added_before f h p from term kw (suc n)
unfolding added_before
added_next f now next h p from term kw month n v past is so_far test entering e =
    e ∙ (λ i. added_at figure_slots (so_far i) h p (from + sym past i) ((entering ∙ (λ j. when_true ((test ∙ ap (has_month term) is) j) kw)) i))

-- .. and after those of all three
pub months_added : (f : List ℕ) (h p from term kw : ℕ) → added_before f h p from term kw 3 ≡ added_in_term f h p from term kw
unfolding added_before added_in_term
months_added f h p from term kw = ap (λ k. added_at figure_slots (added_at figure_slots (added_at figure_slots f h p k (when_true (has_month term 1) kw)) h p (from + 1) (when_true (has_month term 2) kw)) h p (from + 2) (when_true (has_month term 3) kw)) (add-zero from)

-- an amount for one month, in that month and in another
this_month : (h p m kw x y n : ℕ) (t : Bool) → n ≡ m → when_true (same3 h p m x y n) (when_true t kw) ≡ when_true (same2 h p x y && t) kw
unfolding same3 same2 when_true
this_month h p m kw x y n t e = ap (λ u. when_true (eqb x h && eqb y p && u) (when_true t kw)) (eq-eqb n m e) ∙ go (eqb x h && eqb y p) t
  where
    go : (a b : Bool) → when_true (a && true) (when_true b kw) ≡ when_true (a && b) kw
    go true b = refl
    go false b = refl

other_month : (h p m v x y n : ℕ) → (n ≡ m → ⊥) → when_true (same3 h p m x y n) v ≡ 0
unfolding same3
other_month h p m v x y n ne = when_is_false v (and_right_false (eqb x h && eqb y p) (ne_eqb n m ne))

module _ (before after : List (SlotGroup ℕ)) (from : ℕ) (figure : ℕ → ℕ → ℕ → ℕ) (f rest : List ℕ) (h p term kw : ℕ) (at : slots_of before ≡ from) (fits : from + last_month ≤ figure_slots) (a : h < 8) (b : p < 16) where
  abbrev amount : ℕ → ℕ
  amount m = when_true (has_month term m) kw

  abbrev first : ℕ → ℕ → ℕ → ℕ
  first = plus_at3 h p 1 (amount 1) figure

  abbrev second : ℕ → ℕ → ℕ → ℕ
  second = plus_at3 h p 2 (amount 2) first

  third : (x y n : ℕ) → 1 ≤ n → n < 4 → plus_in_term term h p kw figure x y n ≡ second x y n + when_true (same3 h p 3 x y n) (amount 3)
  unfolding plus_in_term plus_at3
  third x y n low high = go (decided (eqb n 1)) (decided (eqb n 2))
    where
      go : (eqb n 1 ≡ true) ⊎ (eqb n 1 ≡ false) → (eqb n 2 ≡ true) ⊎ (eqb n 2 ≡ false) → figure x y n + when_true (same2 h p x y && has_month term n) kw ≡ figure x y n + when_true (same3 h p 1 x y n) (amount 1) + when_true (same3 h p 2 x y n) (amount 2) + when_true (same3 h p 3 x y n) (amount 3)
      go (inl e) d =
          let q = eqb-true n 1 e in
          let one = this_month h p 1 kw x y n (has_month term 1) q in
          let month = ap (λ k. when_true (same2 h p x y && has_month term k) kw) q in
          let two = other_month h p 2 (amount 2) x y n (λ s. omega (arith, s)) in
          let three = other_month h p 3 (amount 3) x y n (λ s. omega (arith, s)) in
          omega arith
      go (inr e) (inl d) =
          let q = eqb-true n 2 d in
          let one = other_month h p 1 (amount 1) x y n (eqb-false n 1 e) in
          let two = this_month h p 2 kw x y n (has_month term 2) q in
          let month = ap (λ k. when_true (same2 h p x y && has_month term k) kw) q in
          let three = other_month h p 3 (amount 3) x y n (λ s. omega (arith, s)) in
          omega arith
      go (inr e) (inr d) =
          let not1 = eqb-false n 1 e in
          let not2 = eqb-false n 2 d in
          let q : n ≡ 3 = omega (arith, not1, not2) in
          let one = other_month h p 1 (amount 1) x y n not1 in
          let two = other_month h p 2 (amount 2) x y n not2 in
          let three = this_month h p 3 kw x y n (has_month term 3) q in
          let month = ap (λ k. when_true (same2 h p x y && has_month term k) kw) q in
          omega arith

  -- a group by month shows the figure with kW more in the term's months
  pub term_added : Shows figure_slots 0 f (in_slot 0 (before ++ (slot_group last_month 1 figure ∷ after))) rest → Shows figure_slots 0 (added_in_term f h p from term kw) (in_slot 0 (before ++ (slot_group last_month 1 (plus_in_term term h p kw figure) ∷ after))) rest
  unfolding added_in_term plus_at3
  term_added s =
      slot_added figure_slots from last_month 1 before after at fits second (plus_in_term term h p kw figure) _ rest h p 2 (amount 3) a b (omega arith) third
      (slot_added figure_slots from last_month 1 before after at fits first second _ rest h p 1 (amount 2) a b (omega arith) (λ x y n l u. refl)
      (subst (λ k. Shows figure_slots 0 (added_at figure_slots f h p k (amount 1)) (in_slot 0 (before ++ (slot_group last_month 1 first ∷ after))) rest) (add-zero from)
      (slot_added figure_slots from last_month 1 before after at fits figure first f rest h p 0 (amount 1) a b (omega arith) (λ x y n l u. refl) s)))
