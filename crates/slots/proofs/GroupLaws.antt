-- Laws of groups of slots: what stands in a group's slots, and groups of which one has another figure. Assumes nothing.
use Prim.Native.Nat.{ℕ, ◌+◌, ◌-◌, ◌≤◌, ◌<◌}
use mathlib.Core.Path.{◌≡◌, sym, ap, ◌∙◌}
use mathlib.Core.Bool.{Bool, true, false, cond, ◌&&◌}
use mathlib.Core.List.{List, [], ◌∷◌, ◌++◌}
use mathlib.Core.Logic.{◌⊎◌, inl, inr}
use native.Mathlib.Omega.{arith}
use lib.Dec.{leb, ltb, eqb}
use borrow.Author.Tests.{ltb-true, ltb-false, leb-true, lt-ltb, le-leb, le-ltb, ne_eqb, eq-eqb, eqb-true, eqb-false}
use Rattle.tariff.proofs.Tests.{and_both, and_join, and_right_false, decided}
use Rattle.ledger.specs.Effects.{same3}
use Rattle.slots.specs.Groups.{SlotGroup, slot_group, slots_of, in_slot, in_group}

-- what the numbers of a group's slot are
pub group_facts : (count low h p k : ℕ) → in_group count low h p k ≡ true → (h < 8) × (p < 16) × (low ≤ k) × (k < low + count)
unfolding in_group
group_facts count low h p k e =
    let last = and_both (ltb h 8 && ltb p 16 && leb low k) (ltb k (low + count)) e in
    let third = and_both (ltb h 8 && ltb p 16) (leb low k) last.0 in
    let first = and_both (ltb h 8) (ltb p 16) third.0 in
    (ltb-true h 8 first.0, ltb-true p 16 first.1, leb-true low k third.1, ltb-true k (low + count) last.1)

pub in_group_lem : (count low h p k : ℕ) → h < 8 → p < 16 → low ≤ k → k < low + count → in_group count low h p k ≡ true
unfolding in_group
in_group_lem count low h p k a b c d = and_join (and_join (and_join (lt-ltb h 8 a) (lt-ltb p 16 b)) (le-leb low k c)) (lt-ltb k (low + count) d)

-- equations that hold together have one test
same_test : (a b c d : ℕ) → (a ≡ b → c ≡ d) → (c ≡ d → a ≡ b) → eqb a b ≡ eqb c d
same_test a b c d to back = go (decided (eqb a b))
  where
    go : (eqb a b ≡ true) ⊎ (eqb a b ≡ false) → eqb a b ≡ eqb c d
    go (inl e) = e ∙ sym (eq-eqb c d (to (eqb-true a b e)))
    go (inr e) = e ∙ sym (ne_eqb c d (λ q. eqb-false a b e (back q)))

module _ {A : Type 0} (none : A) where
  -- the slots of a group that stands after others
  pub group_slot : (before after : List (SlotGroup A)) (count low : ℕ) (figure : ℕ → ℕ → ℕ → A) (h p j : ℕ) → j < count → in_slot none (before ++ (slot_group count low figure ∷ after)) h p (slots_of before + j) ≡ figure h p (j + low)
  unfolding in_slot slots_of
  group_slot [] after count low figure h p j l =
      ap (λ n. cond (ltb n count) (figure h p (n + low)) (in_slot none after h p (n - count))) (let e : 0 + j ≡ j = omega arith in e)
      ∙ ap (λ t. cond t (figure h p (j + low)) (in_slot none after h p (j - count))) (lt-ltb j count l)
  group_slot (slot_group c l f ∷ before) after count low figure h p j b =
      ap (λ t. cond t (f h p (c + slots_of before + j + l)) (in_slot none (before ++ (slot_group count low figure ∷ after)) h p (c + slots_of before + j - c))) (le-ltb (c + slots_of before + j) c (omega arith))
      ∙ ap (in_slot none (before ++ (slot_group count low figure ∷ after)) h p) (let e : c + slots_of before + j - c ≡ slots_of before + j = omega arith in e)
      ∙ group_slot before after count low figure h p j b

  module _ (after : List (SlotGroup A)) (count low : ℕ) (old new : ℕ → ℕ → ℕ → A) (a b j : ℕ) (v : A) (below : j < count) (same : (h p k : ℕ) → low ≤ k → k < low + count → new h p k ≡ cond (same3 a b (j + low) h p k) v (old h p k)) where
    -- where one of them has another figure in one slot, so have they all
    pub group_stored : (before : List (SlotGroup A)) (h p slot : ℕ) → cond (same3 a b (slots_of before + j) h p slot) v (in_slot none (before ++ (slot_group count low old ∷ after)) h p slot) ≡ in_slot none (before ++ (slot_group count low new ∷ after)) h p slot
    unfolding in_slot slots_of same3
    group_stored [] h p slot = go (decided (ltb slot count))
      where
        pair : Bool
        pair = eqb h a && eqb p b

        go : (ltb slot count ≡ true) ⊎ (ltb slot count ≡ false) → cond (pair && eqb slot (0 + j)) v (cond (ltb slot count) (old h p (slot + low)) (in_slot none after h p (slot - count))) ≡ cond (ltb slot count) (new h p (slot + low)) (in_slot none after h p (slot - count))
        go (inl t) =
            (λ i. cond (pair && number i) v (cond (t i) (old h p (slot + low)) (in_slot none after h p (slot - count))))
            ∙ sym (same h p (slot + low) (omega arith) (let l = ltb-true slot count t in omega arith))
            ∙ sym (ap (λ u. cond u (new h p (slot + low)) (in_slot none after h p (slot - count))) t)
          where
            number : eqb slot (0 + j) ≡ eqb (slot + low) (j + low)
            number = same_test slot (0 + j) (slot + low) (j + low) (λ e. omega (arith, e)) (λ e. omega (arith, e))
        go (inr t) =
            let past = ltb-false slot count t in
            (λ i. cond (and_right_false pair (ne_eqb slot (0 + j) (λ e. omega (arith, e))) i) v (cond (t i) (old h p (slot + low)) (in_slot none after h p (slot - count))))
            ∙ sym (ap (λ u. cond u (new h p (slot + low)) (in_slot none after h p (slot - count))) t)
    group_stored (slot_group c l f ∷ before) h p slot = go (decided (ltb slot c)) (group_stored before h p (slot - c))
      where
        pair : Bool
        pair = eqb h a && eqb p b

        was : A
        was = in_slot none (before ++ (slot_group count low old ∷ after)) h p (slot - c)

        is : A
        is = in_slot none (before ++ (slot_group count low new ∷ after)) h p (slot - c)

        go : (ltb slot c ≡ true) ⊎ (ltb slot c ≡ false) → cond (pair && eqb (slot - c) (slots_of before + j)) v was ≡ is → cond (pair && eqb slot (c + slots_of before + j)) v (cond (ltb slot c) (f h p (slot + l)) was) ≡ cond (ltb slot c) (f h p (slot + l)) is
        go (inl t) ih =
            let here = ltb-true slot c t in
            (λ i. cond (and_right_false pair (ne_eqb slot (c + slots_of before + j) (λ e. omega (arith, e))) i) v (cond (t i) (f h p (slot + l)) was))
            ∙ sym (ap (λ u. cond u (f h p (slot + l)) is) t)
        go (inr t) ih =
            let past = ltb-false slot c t in
            (λ i. cond (pair && same_test slot (c + slots_of before + j) (slot - c) (slots_of before + j) (λ e. omega (arith, e)) (λ e. omega (arith, e)) i) v (cond (t i) (f h p (slot + l)) was))
            ∙ ih
            ∙ sym (ap (λ u. cond u (f h p (slot + l)) is) t)
