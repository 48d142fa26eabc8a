-- Columns that are transferred where a test passes: none, one more, and the same test said otherwise. Assumes nothing.
use Prim.Native.Nat.{ℕ, ◌<◌}
use mathlib.Core.Path.{◌≡◌, refl, sym, ap, ◌∙◌}
use mathlib.Core.Bool.{Bool, true, false, cond, ◌||◌}
use mathlib.Core.List.{List}
use mathlib.Core.Logic.{◌⊎◌, inl, inr}
use Rattle.tariff.proofs.Tests.{decided}
use Rattle.slots.specs.Layout.{figure_slots}
use Rattle.slots.proofs.CellLaws.{shows_agree}
use Rattle.transfers.specs.Columns.{ColumnTransfer}
use Rattle.transfers.specs.Transfers.{column_where}
use Rattle.transfers.proofs.ColumnLaws.{transferred_then}

module _ (column : (ℕ → ℕ) → ℕ → ℕ) where
  pub where_off : (test : ℕ → ℕ → Bool) (p slot : ℕ) (v : ℕ → ℕ) (h : ℕ) → test p slot ≡ false → column_where test column p slot v h ≡ v h
  unfolding column_where
  where_off test p slot v h e = ap (λ t. cond t (column v h) (v h)) e

  -- nothing is transferred
  pub where_none : (test : ℕ → ℕ → Bool) (f : List ℕ) → ((p slot : ℕ) → test p slot ≡ false) → ColumnTransfer (column_where test column) f f
  where_none test f off g rest s = shows_agree figure_slots 0 g (λ h p slot. column_where test column p slot (λ i. g i p slot) h) f rest s (λ h p slot c. sym (where_off test p slot (λ i. g i p slot) h (off p slot)))

  -- the same test, said otherwise
  pub where_same : (s t : ℕ → ℕ → Bool) (f f' : List ℕ) → ((p slot : ℕ) → p < 16 → slot < figure_slots → s p slot ≡ t p slot) → ColumnTransfer (column_where s column) f f' → ColumnTransfer (column_where t column) f f'
  unfolding column_where
  where_same s t f f' same a g rest shown =
      shows_agree figure_slots 0 _ (λ h p slot. column_where t column p slot (λ i. g i p slot) h) f' rest (a g rest shown)
      (λ h p slot c. ap (λ u. cond u (column (λ i. g i p slot) h) (g h p slot)) (same p slot c.place c.in_row))

  -- here and then there: no column twice
  pub where_then : (s t u : ℕ → ℕ → Bool) (f one two : List ℕ) → ((p slot : ℕ) → t p slot ≡ true → s p slot ≡ false) → ((p slot : ℕ) → (s p slot || t p slot) ≡ u p slot) → ColumnTransfer (column_where s column) f one → ColumnTransfer (column_where t column) one two → ColumnTransfer (column_where u column) f two
  unfolding column_where
  where_then s t u f one two once both a b = transferred_then (column_where s column) (column_where t column) (column_where u column) f one two (λ p slot h v c. go p slot h v (decided (t p slot))) a b
    where
      go : (p slot h : ℕ) (v : ℕ → ℕ) → (t p slot ≡ true) ⊎ (t p slot ≡ false) → cond (t p slot) (column (λ i. cond (s p slot) (column v i) (v i)) h) (cond (s p slot) (column v h) (v h)) ≡ cond (u p slot) (column v h) (v h)
      go p slot h v (inl on) =
          let off = once p slot on in
          ap (λ x. cond x (column (λ i. cond (s p slot) (column v i) (v i)) h) (cond (s p slot) (column v h) (v h))) on
          ∙ (λ k. column (λ i. cond (off k) (column v i) (v i)) h)
          ∙ sym (ap (λ x. cond x (column v h) (v h)) (sym (both p slot) ∙ (λ k. off k || on k)))
      go p slot h v (inr off) =
          ap (λ x. cond x (column (λ i. cond (s p slot) (column v i) (v i)) h) (cond (s p slot) (column v h) (v h))) off
          ∙ ap (λ x. cond x (column v h) (v h)) (sym (or_off (s p slot)) ∙ ap (λ x. s p slot || x) (sym off) ∙ both p slot)
        where
          or_off : (x : Bool) → (x || false) ≡ x
          or_off true = refl
          or_off false = refl
