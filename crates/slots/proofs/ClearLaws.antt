-- A slot put to 0 in every row, as a loop does it and as the array then shows it. Assumes nothing.
use Prim.Native.Nat.{ℕ, zero, suc, ◌+◌, ◌*◌, ◌/◌, ◌%◌, ◌≤◌, ◌<◌}
use mathlib.Core.Path.{◌≡◌, refl, sym, ap, ◌∙◌}
use mathlib.Core.Bool.{Bool, true, false, cond, ◌&&◌}
use mathlib.Core.List.{List}
use mathlib.Core.Logic.{◌⊎◌, inl, inr}
use native.Mathlib.Omega.{arith}
use lib.ListN.{set}
use lib.Dec.{ltb, eqb}
use borrow.Author.Tests.{ltb-true, ltb-false, lt-ltb, le-ltb, eqb-true, eqb-false, eq-eqb, ne_eqb}
use Rattle.tariff.proofs.Tests.{decided, and_join, and_left_false, and_right_false}
use Rattle.ledger.specs.Effects.{same3}
use Rattle.slots.specs.Cells.{rows, cell_of, HasCell, stored_at, cleared_to, Shows}
use Rattle.slots.proofs.CellLaws.{shows_stored, shows_agree}

module _ (width slot : ℕ) (f : ℕ → ℕ → ℕ → ℕ) (cells rest : List ℕ) (in_row : slot < width) where
  -- after so many rows
  cleared-so-far : (n : ℕ) → n ≤ rows → Shows width 0 cells f rest → Shows width 0 (cleared_to width slot cells n) (λ h p z. cond (ltb (h * 16 + p) n && eqb z slot) 0 (f h p z)) rest
  unfolding cleared_to same3 stored_at cell_of
  cleared-so-far zero few s = shows_agree width 0 f _ cells rest s (λ h p z c. sym (ap (λ t. cond (t && eqb z slot) 0 (f h p z)) (le-ltb (h * 16 + p) 0 (omega arith))))
  cleared-so-far (suc n) few s =
      shows_agree width 0 _ (λ h p z. cond (ltb (h * 16 + p) (suc n) && eqb z slot) 0 (f h p z)) (set (cleared_to width slot cells n) (n * width + slot) 0) rest
      (rw stored (shows_stored width 0 0 _ (cleared_to width slot cells n) rest (n / 16) (n % 16) slot (cleared-so-far n (omega arith) s) (record { holder = omega arith; place = omega arith; in_row = in_row })))
      (λ h p z c. go h p z c (decided (eqb z slot)) (decided (ltb (h * 16 + p) n)))
    where
      cell : n * width + slot ≡ cell_of width (n / 16) (n % 16) slot
      cell = ap (λ row. row * width + slot) (let e : n ≡ n / 16 * 16 + n % 16 = omega arith in e)

      stored : set (cleared_to width slot cells n) (n * width + slot) 0 ≡ stored_at width (cleared_to width slot cells n) (n / 16) (n % 16) slot 0
      stored = ap (λ k. set (cleared_to width slot cells n) k 0) cell

      go : (h p z : ℕ) → HasCell width h p z → (eqb z slot ≡ true) ⊎ (eqb z slot ≡ false) → (ltb (h * 16 + p) n ≡ true) ⊎ (ltb (h * 16 + p) n ≡ false) → cond (eqb h (n / 16) && eqb p (n % 16) && eqb z slot) 0 (cond (ltb (h * 16 + p) n && eqb z slot) 0 (f h p z)) ≡ cond (ltb (h * 16 + p) (suc n) && eqb z slot) 0 (f h p z)
      go h p z c (inr e) l =
          (λ i. cond (and_right_false (eqb h (n / 16) && eqb p (n % 16)) e i) 0 (cond (and_right_false (ltb (h * 16 + p) n) e i) 0 (f h p z)))
          ∙ sym (ap (λ t. cond t 0 (f h p z)) (and_right_false (ltb (h * 16 + p) (suc n)) e))
      go h p z c (inl e) (inl l) =
          twice (eqb h (n / 16) && eqb p (n % 16) && eqb z slot) (ltb (h * 16 + p) n && eqb z slot) (and_join l e)
          ∙ sym (ap (λ t. cond t 0 (f h p z)) (and_join (lt-ltb (h * 16 + p) (suc n) (let b = ltb-true (h * 16 + p) n l in omega arith)) e))
        where
          twice : (s t : Bool) → t ≡ true → cond s 0 (cond t 0 (f h p z)) ≡ 0
          twice true t q = refl
          twice false t q = ap (λ u. cond u 0 (f h p z)) q
      go h p z c (inl e) (inr l) = here (decided (eqb (h * 16 + p) n))
        where
          past : n ≤ h * 16 + p
          past = ltb-false (h * 16 + p) n l

          here : (eqb (h * 16 + p) n ≡ true) ⊎ (eqb (h * 16 + p) n ≡ false) → cond (eqb h (n / 16) && eqb p (n % 16) && eqb z slot) 0 (cond (ltb (h * 16 + p) n && eqb z slot) 0 (f h p z)) ≡ cond (ltb (h * 16 + p) (suc n) && eqb z slot) 0 (f h p z)
          here (inl q) =
              let same = eqb-true (h * 16 + p) n q in
              let b = c.place in
              ap (λ t. cond t 0 (cond (ltb (h * 16 + p) n && eqb z slot) 0 (f h p z))) (and_join (and_join (eq-eqb h (n / 16) (omega arith)) (eq-eqb p (n % 16) (omega arith))) e)
              ∙ sym (ap (λ t. cond t 0 (f h p z)) (and_join (lt-ltb (h * 16 + p) (suc n) (omega arith)) e))
          here (inr q) =
              let other = eqb-false (h * 16 + p) n q in
              let b = c.place in
              (λ i. cond (and_left_false (eqb z slot) (apart other b) i) 0 (cond (and_left_false (eqb z slot) l i) 0 (f h p z)))
              ∙ sym (ap (λ t. cond t 0 (f h p z)) (and_left_false (eqb z slot) (le-ltb (h * 16 + p) (suc n) (let k = past in omega (arith, other)))))
            where
              apart : (h * 16 + p ≡ n → ⊥) → p < 16 → (eqb h (n / 16) && eqb p (n % 16)) ≡ false
              apart other b = both (decided (eqb h (n / 16)))
                where
                  both : (eqb h (n / 16) ≡ true) ⊎ (eqb h (n / 16) ≡ false) → (eqb h (n / 16) && eqb p (n % 16)) ≡ false
                  both (inl u) = let v = eqb-true h (n / 16) u in and_right_false (eqb h (n / 16)) (ne_eqb p (n % 16) (λ w. other (let z : h * 16 + p ≡ n = omega (arith, w) in z)))
                  both (inr u) = and_left_false (eqb p (n % 16)) u

  -- after all of them
  pub shows_cleared : Shows width 0 cells f rest → Shows width 0 (cleared_to width slot cells rows) (λ h p z. cond (eqb z slot) 0 (f h p z)) rest
  shows_cleared s =
      shows_agree width 0 _ (λ h p z. cond (eqb z slot) 0 (f h p z)) (cleared_to width slot cells rows) rest (cleared-so-far rows (omega arith) s)
      (λ h p z c. ap (λ t. cond (t && eqb z slot) 0 (f h p z)) (lt-ltb (h * 16 + p) rows (let a = c.holder in let b = c.place in omega arith)))
