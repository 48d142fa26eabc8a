-- What refuses the blocks of a load, from what the function that finds the kW gave. Assumes nothing.
use Prim.Native.Nat.{ℕ, ◌+◌, ◌≤◌, ◌<◌}
use mathlib.Core.Path.{◌≡◌, refl, ap, ◌∙◌}
use native.Mathlib.Omega.{arith}
use mathlib.Core.Bool.{Bool, true, false, cond}
use mathlib.Core.List.{List}
use Rattle.std.proofs.Common.{rules, Ok, Err}
use Rattle.tariff.specs.Ranges.{term_out_of_range}
use Rattle.tariff.specs.Sizes.{terms}
use Rattle.tariff.specs.declared.settings.Settings.{Settings}
use Rattle.load_metric.specs.declared.block.Block.{Block}
use Rattle.load_metric.specs.declared.load.BlockError.{BlockError}
use Rattle.load_metric.specs.declared.load.BlockError.TheVariants.{Broken, Missing}
use Rattle.load_metric.specs.Load.{blocks_broken, too_many_missing, load_posted}
use Rattle.load_metric.specs.Metering.{load_or_cause, unless_refused, metering_by, block_refusal}
use Rattle.ledger.specs.Numbers.{broken_blocks, hours_missing}
use Rattle.ledger.specs.Ranges.{load_out_of_range}
use Rattle.records.specs.Refusals.{number_of, of_blocks}
use Rattle.slots.specs.Cells.{look_at}
use Rattle.slots.specs.Layout.{posted_slots, is_posted_in, load_posted_slot}
use Rattle.slots.proofs.PostedLaws.{posted_from_zero}

module _ (settings : Settings) (n : ℕ) (bs : List Block) (kw : ℕ) where
  -- what refuses the blocks, where the function gives an error; of those that it gives a kW for, nothing does
  pub when_refused : (e : BlockError) → Err e ≡ unless_refused settings n bs kw → number_of (of_blocks e) ≡ block_refusal settings n bs
  unfolding unless_refused metering_by block_refusal
  when_refused e same = go e (blocks_broken n bs) (too_many_missing settings n bs) same
    where
      go : (e : BlockError) (x y : Bool) → Err e ≡ metering_by (cond x broken_blocks (cond y hours_missing 0)) kw → number_of (of_blocks e) ≡ cond x broken_blocks (cond y hours_missing 0)
      go Broken true y q = refl
      go Broken false true q = cc
      go Broken false false q = cc
      go Missing true y q = cc
      go Missing false true q = refl
      go Missing false false q = cc

  pub when_kw : (x : ℕ) → Ok x ≡ unless_refused settings n bs kw → (blocks_broken n bs ≡ false) × (too_many_missing settings n bs ≡ false) × (x ≡ kw)
  unfolding unless_refused metering_by block_refusal
  when_kw x e = go (blocks_broken n bs) (too_many_missing settings n bs) e
    where
      go : (a b : Bool) → Ok x ≡ metering_by (cond a broken_blocks (cond b hours_missing 0)) kw → (a ≡ false) × (b ≡ false) × (x ≡ kw)
      go true b q = (cc, cc, cc)
      go false true q = (refl, cc, cc)
      go false false q = (refl, refl, cc)

module _ (settings S : Settings) (same : settings ≡ S) (n contract : ℕ) (bs : List Block) where
  -- by the settings of a book
  pub blocks_refused : (e : BlockError) → Err e ≡ load_or_cause settings bs n contract → (number_of (of_blocks e) ≡ block_refusal S n bs) × (6 ≤ number_of (of_blocks e))
  unfolding load_or_cause
  blocks_refused e is = (when_refused S n bs (load_posted S contract bs) e (is ∙ ap (λ s. load_or_cause s bs n contract) same), grind (arith))

  pub blocks_posted : (kw : ℕ) → Ok kw ≡ load_or_cause settings bs n contract → (blocks_broken n bs ≡ false) × (too_many_missing S n bs ≡ false) × (kw ≡ load_posted S contract bs)
  unfolding load_or_cause
  blocks_posted kw is = when_kw S n bs (load_posted S contract bs) kw (is ∙ ap (λ s. load_or_cause s bs n contract) same)

-- a load whose numbers are in range is of one of the four terms
term_low : (term contract n : ℕ) (bs : List Block) → load_out_of_range term contract n bs ≡ false → term < terms
unfolding load_out_of_range term_out_of_range
term_low term contract n bs e = search rules

-- whether it was posted stands in the slot of its term
pub posted_in_term : (m : List Bool) (h s term contract n : ℕ) (bs : List Block) → load_out_of_range term contract n bs ≡ false → look_at posted_slots false m h s (load_posted_slot + term) ≡ is_posted_in m load_posted_slot terms 0 h s term
posted_in_term m h s term contract n bs e = posted_from_zero m h s load_posted_slot terms term (omega arith) (term_low term contract n bs e)
