-- A migration moves nothing to where there is no slot. Assumes nothing.
use Prim.Native.Nat.{ℕ, ◌*◌, ◌/◌, ◌≤◌, ◌<◌, zero-le}
use mathlib.Core.Path.{◌≡◌, ap, ◌∙◌}
use mathlib.Core.Bool.{Bool, true, false, cond, ◌&&◌}
use mathlib.Core.List.{List}
use mathlib.Core.Logic.{◌⊎◌, inl, inr}
use native.Mathlib.Nat.{mul-zero, zero-mul, zero-div}
use native.Mathlib.Omega.{arith}
use lib.Dec.{ltb, eqb}
use borrow.Author.Tests.{ltb-true, ltb-false, eqb-true}
use Rattle.tariff.specs.Sizes.{terms}
use Rattle.netting.specs.declared.netting.ClassLine.{ClassLine}
use Rattle.netting.specs.Migration.{netted, share, shares, transferred}
use Rattle.tariff.proofs.Sums.{sum_zero}
use Rattle.tariff.proofs.Tests.{and_both, decided, both_ways}
use Rattle.ledger.specs.Opening.{Opening}
use Rattle.ledger.specs.Ledger.{Ledger}
use Rattle.ledger.specs.Migration.{transferred_where, load_after, load_before, loads_after, column_after}
use Rattle.ledger.proofs.TierFacts.{MigrateFacts}
use Rattle.ledger.proofs.Outside.{netted_outside}
use Rattle.slots.specs.Groups.{in_group}
use Rattle.slots.proofs.GroupLaws.{group_facts, in_group_lem}
use Rattle.slots.proofs.Inside.{Inside}

-- a share of nothing, or with an m of 0, is 0
share_zero : (v m L : ℕ) → (v ≡ 0) ⊎ (m ≡ 0) → share v m L ≡ 0
unfolding share
share_zero v m L (inl e) = ap (λ x. x * m / L) e ∙ ap (λ x. x / L) (zero-mul m) ∙ zero-div L
share_zero v m L (inr e) = ap (λ x. v * x / L) e ∙ ap (λ x. x / L) (mul-zero v) ∙ zero-div L

-- an entry with nothing stays so where nothing comes to it
transfer_zero : (n : ℕ) (part : ℕ → ℕ → ℕ) (v : ℕ → ℕ) (h : ℕ) → v h ≡ 0 → ((j : ℕ) → j < n → part j h ≡ 0) → transferred n part v h ≡ 0
unfolding transferred
transfer_zero n part v h e none = let come = sum_zero {f = λ j. part j h} n none in omega arith

module _ (o : Opening) (L : Ledger) (term sink : ℕ) (lines : List ClassLine) (few : o.holders ≤ 8) (f : MigrateFacts o L term sink lines) where
  -- a column of records: nothing comes to a holder that has no slot, nor on a path or in a month that has none
  pub column_inside : (width low p m : ℕ) (t : Bool) (v : ℕ → ℕ) → ((j : ℕ) → in_group width low j p m ≡ false → v j ≡ 0) → (h : ℕ) → in_group width low h p m ≡ false → cond t (column_after o L term sink lines v h) (v h) ≡ 0
  unfolding column_after shares
  column_inside width low p m t v inside h none = go t
    where
      comes : (j : ℕ) → j < o.holders → share (v j) (netted lines j h) (load_before L term sink j) ≡ 0
      comes j l = share_zero (v j) (netted lines j h) (load_before L term sink j) (which (decided (in_group width low j p m)))
        where
          which : (in_group width low j p m ≡ true) ⊎ (in_group width low j p m ≡ false) → (v j ≡ 0) ⊎ (netted lines j h ≡ 0)
          which (inr e) = inl (inside j e)
          which (inl e) = inr (netted_outside o lines j h f.holders (inr (far (decided (ltb h 8)))))
            where
              far : (ltb h 8 ≡ true) ⊎ (ltb h 8 ≡ false) → o.holders ≤ h
              far (inl u) = let k = group_facts width low j p m e in absurd (both_ways (in_group_lem width low h p m (ltb-true h 8 u) k.1 k.2 k.3) none)
              far (inr u) = let b = ltb-false h 8 u in omega arith

      go : (t : Bool) → cond t (transferred o.holders (λ i j. share (v i) (netted lines i j) (load_before L term sink i)) v h) (v h) ≡ 0
      go true = transfer_zero o.holders (λ i j. share (v i) (netted lines i j) (load_before L term sink i)) v h (inside h none) comes
      go false = inside h none

  -- the loads
  pub loads_inside : o.sinks ≤ 16 → Inside terms 0 0 L.loads.kw → Inside terms 0 0 (loads_after term sink (load_after o lines) L.loads).kw
  unfolding loads_after transferred_where load_after
  loads_inside sinks inside h s t none = go (decided (eqb s sink && eqb t term))
    where
      go : (eqb s sink && eqb t term ≡ true) ⊎ (eqb s sink && eqb t term ≡ false) → cond (eqb s sink && eqb t term) (transferred o.holders (netted lines) (λ i. L.loads.kw i s t) h) (L.loads.kw h s t) ≡ 0
      go (inl e) =
          ap (λ b. cond b (transferred o.holders (netted lines) (λ i. L.loads.kw i s t) h) (L.loads.kw h s t)) e
          ∙ transfer_zero o.holders (netted lines) (λ i. L.loads.kw i s t) h (inside h s t none) (λ j l. netted_outside o lines j h f.holders (inr (far (decided (ltb h 8)))))
        where
          far : (ltb h 8 ≡ true) ⊎ (ltb h 8 ≡ false) → o.holders ≤ h
          far (inl u) =
              let both = and_both (eqb s sink) (eqb t term) e in
              let sq = eqb-true s sink both.0 in
              let tq = eqb-true t term both.1 in
              let a = f.sink_in_book in
              let b = f.term_in_range in
              absurd (both_ways (in_group_lem terms 0 h s t (ltb-true h 8 u) (omega arith) zero-le (omega arith)) none)
          far (inr u) = let b = ltb-false h 8 u in omega arith
      go (inr e) = ap (λ b. cond b (transferred o.holders (netted lines) (λ i. L.loads.kw i s t) h) (L.loads.kw h s t)) e ∙ inside h s t none
