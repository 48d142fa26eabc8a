-- The sums of a limit, path by path: what one path more leaves, and what the sums after all paths are. Assumes nothing.
use Prim.Native.Nat.{ℕ, ◌+◌, ◌*◌, ◌≤◌, ◌<◌}
use mathlib.Core.Path.{◌≡◌, refl, sym, ◌∙◌, subst}
use mathlib.Core.Bool.{Bool, true, false, not}
use mathlib.Core.List.{List}
use native.Mathlib.Nat.{le_trans}
use native.Mathlib.Omega.{arith}
use lib.Dec.{eqb}
use borrow.Author.Tests.{not-true, not-false}
use Rattle.records.specs.declared.setup.KeptOpening.{KeptOpening}
use Rattle.tier_limits.specs.declared.limits.PathSums.{PathSums}
use Rattle.tier_limits.specs.declared.limits.TierSlots.{TierSlots}
use Rattle.tariff.specs.Sum.{when_true, sum_to}
use Rattle.tariff.proofs.Sums.{when_is_true, when_is_false, when_le, sum_more}
use Rattle.ledger.specs.Opening.{Opening, path_base, has_base}
use Rattle.ledger.proofs.Bounds.{paths_fit}
use Rattle.records.specs.Opening.{opening_in}
use Rattle.slots.specs.Layout.{prior_allocated_slot, awards_slot, figure_slots}
use Rattle.slots.specs.Sums.{on_path, max_figure}
use Rattle.tier_limits.specs.PathSums.{with_path, slot_to, sums_to, PathsSummable, SumsFit, PathSummable}

module _ (f : List ℕ) (h p : ℕ) (slots : TierSlots) (s : PathSums) where
  -- a path that does not count leaves the sums
  pub left_out : (counts : Bool) → not counts ≡ true → s ≡ with_path f h p slots counts s
  unfolding with_path
  left_out counts e =
      let none = not-true counts e in
      λ i.
      record {
        carried = same s.carried (on_path f h slots.carried p) none i;
        prior = same s.prior (on_path f h prior_allocated_slot p) none i;
        tier1 = same s.tier1 (on_path f h (awards_slot + 1) p) none i;
        tier2 = same s.tier2 (on_path f h (awards_slot + 2) p) none i;
        tier3 = same s.tier3 (on_path f h (awards_slot + 3) p) none i;
        before = same s.before (on_path f h slots.before p) none i;
      }
    where
      same : (sum v : ℕ) → counts ≡ false → sum ≡ sum + when_true counts v
      same sum v none = let zero = when_is_false v none in omega arith

  -- one that counts adds its figures
  pub added : (counts : Bool) (a b c d e g : ℕ) → not counts ≡ false → a ≡ on_path f h slots.carried p → b ≡ on_path f h prior_allocated_slot p → c ≡ on_path f h (awards_slot + 1) p → d ≡ on_path f h (awards_slot + 2) p → e ≡ on_path f h (awards_slot + 3) p → g ≡ on_path f h slots.before p → ◌≡◌ {A = PathSums} (record { carried = s.carried + a; prior = s.prior + b; tier1 = s.tier1 + c; tier2 = s.tier2 + d; tier3 = s.tier3 + e; before = s.before + g }) (with_path f h p slots counts s)
  unfolding with_path
  added counts a b c d e g some ea eb ec ed ee eg =
      λ i.
      record {
        carried = more s.carried a (on_path f h slots.carried p) ea i;
        prior = more s.prior b (on_path f h prior_allocated_slot p) eb i;
        tier1 = more s.tier1 c (on_path f h (awards_slot + 1) p) ec i;
        tier2 = more s.tier2 d (on_path f h (awards_slot + 2) p) ed i;
        tier3 = more s.tier3 e (on_path f h (awards_slot + 3) p) ee i;
        before = more s.before g (on_path f h slots.before p) eg i;
      }
    where
      more : (sum v w : ℕ) → v ≡ w → sum + v ≡ sum + when_true counts w
      more sum v w q = let all-of-it = when_is_true w (not-false counts some) in omega arith

module _ (O : Opening) (f : List ℕ) (h base : ℕ) (slots : TierSlots) where
  -- the sums so far: nothing yet, one path more
  pub sums_none : (s : PathSums) → (s.carried ≡ 0) × (s.prior ≡ 0) × (s.tier1 ≡ 0) × (s.tier2 ≡ 0) × (s.tier3 ≡ 0) × (s.before ≡ 0) → s ≡ sums_to O f h base slots 0
  unfolding sums_to slot_to sum_to
  sums_none s e = λ i. record { carried = e.0 i; prior = e.1 i; tier1 = e.2 i; tier2 = e.3 i; tier3 = e.4 i; before = e.5 i }

  slot-more : (slot p : ℕ) → slot_to O f h base slot p + when_true (has_base O base p) (on_path f h slot p) ≡ slot_to O f h base slot (p + 1)
  unfolding slot_to
  slot-more slot p = sum_more (λ p. when_true (has_base O base p) (on_path f h slot p)) p _ _ refl refl

  one_more : (p : ℕ) → with_path f h p slots (has_base O base p) (sums_to O f h base slots p) ≡ sums_to O f h base slots (p + 1)
  unfolding with_path sums_to
  one_more p =
      λ i.
      record {
        carried = slot-more slots.carried p i;
        prior = slot-more prior_allocated_slot p i;
        tier1 = slot-more (awards_slot + 1) p i;
        tier2 = slot-more (awards_slot + 2) p i;
        tier3 = slot-more (awards_slot + 3) p i;
        before = slot-more slots.before p i;
      }

  pub sums_more : (p there : ℕ) (sums next : PathSums) → next ≡ with_path f h p slots (eqb there base) sums → there ≡ path_base O p → sums ≡ sums_to O f h base slots p → next ≡ sums_to O f h base slots (p + 1)
  unfolding has_base
  sums_more p there sums next e t s = e ∙ (λ i. with_path f h p slots (eqb (t i) base) (s i)) ∙ one_more p

module _ (o : KeptOpening) (f : List ℕ) (h base : ℕ) (slots : TierSlots) (all : PathsSummable o f h slots) where
  abbrev O : Opening
  O = opening_in o

  slot-fits : (slot n : ℕ) → slot < figure_slots → n ≤ O.paths → slot_to O f h base slot n ≤ 16 * max_figure
  unfolding slot_to
  slot-fits slot n l k =
      let s = all.each slot l in
      paths_fit (λ p. when_true (has_base O base p) (on_path f h slot p)) n max_figure (le_trans k s.few) (λ p i. le_trans (when_le (has_base O base p) (on_path f h slot p)) (s.each p (le_trans i k)))

  sums-fit : (n : ℕ) → n ≤ O.paths → SumsFit (sums_to O f h base slots n)
  unfolding sums_to
  sums-fit n k =
      record {
        carried = slot-fits slots.carried n all.carried_in_row k;
        prior = slot-fits prior_allocated_slot n (omega arith) k;
        tier1 = slot-fits (awards_slot + 1) n (omega arith) k;
        tier2 = slot-fits (awards_slot + 2) n (omega arith) k;
        tier3 = slot-fits (awards_slot + 3) n (omega arith) k;
        before = slot-fits slots.before n all.before_in_row k;
      }

  -- the next path's figures can be added
  pub path_fits : (p : ℕ) (sums : PathSums) → p < O.paths → sums ≡ sums_to O f h base slots p → PathSummable f h p slots sums
  path_fits p sums there is =
      let s = all.each 0 (omega arith) in
      record {
        holder = s.holder;
        place = le_trans there s.few;
        carried_in_row = all.carried_in_row;
        before_in_row = all.before_in_row;
        each = λ slot i. (all.each slot i).each p there;
        sums = subst SumsFit (sym is) (sums-fit p (let k : p ≤ O.paths = omega arith in k));
      }
