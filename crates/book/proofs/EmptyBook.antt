-- Arrays filled with 0, with nothing posted and with no evidence are those of a ledger with nothing in it. Assumes nothing.
use Prim.Native.Nat.{ℕ, zero, suc, ◌+◌, ◌-◌, ◌*◌}
use mathlib.Core.Path.{◌≡◌, refl, sym, ap, ◌∙◌}
use mathlib.Core.Bool.{Bool, true, false, cond, ◌&&◌}
use mathlib.Core.List.{List, [], ◌∷◌}
use mathlib.Core.Logic.{◌⊎◌, inl, inr}
use native.Mathlib.Omega.{arith}
use lib.Dec.{leb, ltb}
use borrow.Author.Tests.{ltb-true, ltb-false, lt-leb, ne_eqb}
use lib.ListN.{get_or, replicate, length-replicate, get_or-replicate, get_or-eq_default}
use Rattle.tariff.specs.Sum.{when_true}
use Rattle.source_evidence.specs.declared.evidence.Entry.{Entry}
use Rattle.source_evidence.specs.declared.evidence.Evidence.TheVariants.{Empty}
use Rattle.source_evidence.specs.Evidence.{empty_entry, counts_for, is_ten_year}
use Rattle.tariff.proofs.Sums.{when_is_false}
use Rattle.tariff.proofs.Tests.{decided, and_right_false}
use Rattle.ledger.specs.Ledger.{empty_ledger}
use Rattle.slots.specs.Cells.{rows, read_at, Shows}
use Rattle.slots.specs.Groups.{SlotGroup, slot_group, in_slot}
use Rattle.slots.specs.Coverage.{coverage}
use Rattle.slots.specs.Layout.{figure_slots, figure_count, posted_slots, posted_count, evidence_slots, evidence_count, figure_groups, posted_groups, evidence_groups, calendar_of, flag, figures_of, posted_of, evidence_of}
use Rattle.slots.proofs.CellLaws.{shown_is}

module _ {A : Type 0} (none : A) where
  -- an array filled with one value reads so everywhere
  filled-read : (n k : ℕ) → get_or (replicate n none) k none ≡ none
  filled-read n k = go (decided (ltb k n))
    where
      go : (ltb k n ≡ true) ⊎ (ltb k n ≡ false) → get_or (replicate n none) k none ≡ none
      go (inl t) = get_or-replicate n k none none (ltb-true k n t)
      go (inr t) = get_or-eq_default (replicate n none) none {n = k} (let long = length-replicate n none in let past = ltb-false k n t in omega arith)

  -- groups whose figures have nothing have nothing in any slot
  abbrev AllNone : List (SlotGroup A) → Type 0
  AllNone [] = Unit {0}
  AllNone (slot_group count low figure ∷ later) = ((h p k : ℕ) → figure h p k ≡ none) × AllNone later

  slot-none : (gs : List (SlotGroup A)) (h p slot : ℕ) → AllNone gs → in_slot none gs h p slot ≡ none
  unfolding in_slot
  slot-none [] h p slot all = refl
  slot-none (slot_group count low figure ∷ later) h p slot all = ap (λ v. cond (ltb slot count) v (in_slot none later h p (slot - count))) (all.0 h p (slot + low)) ∙ either (ltb slot count) (slot-none later h p (slot - count) all.1)
    where
      either : (t : Bool) → in_slot none later h p (slot - count) ≡ none → cond t none (in_slot none later h p (slot - count)) ≡ none
      either true e = refl
      either false e = e

  -- a filled array shows such groups, with some of the same after it
  filled-shows : (width n k : ℕ) (gs : List (SlotGroup A)) → n ≡ rows * width + k → AllNone gs → Shows width none (replicate n none) (in_slot none gs) (replicate k none)
  unfolding read_at
  filled-shows width n k gs long all =
      record {
        sized = length-replicate n none ∙ long ∙ ap (λ j. rows * width + j) (sym (length-replicate k none));
        each = λ h p slot c. filled-read n _ ∙ sym (slot-none gs h p slot all);
        tail = λ j. filled-read n (rows * width + j) ∙ sym (filled-read k j);
      }

-- evidence that was not filed counts for no term ..
none_counts : (term : ℕ) → counts_for term empty_entry ≡ false
unfolding counts_for empty_entry
none_counts zero = refl
none_counts (suc term) =
    ap (λ t. cond t false (leb 0 (suc term) && leb (suc term) 0)) (ne_eqb (suc term) 0 (λ q. omega (arith, q)))
    ∙ and_right_false (leb 0 (suc term)) (lt-leb (suc term) 0 (omega arith))

-- .. and nothing is kept of it
nothing_filed : (term : ℕ) → coverage term empty_entry ≡ 0
unfolding coverage
nothing_filed term = when_is_false _ (none_counts term)

pub empty_figures : replicate figure_count 0 ≡ figures_of empty_ledger
unfolding figures_of figure_groups calendar_of empty_ledger flag is_ten_year empty_entry when_true
empty_figures =
    shown_is figure_slots 0 (in_slot 0 (figure_groups empty_ledger)) (replicate figure_count 0) (0 ∷ 0 ∷ 0 ∷ []) (omega arith)
    (filled-shows 0 figure_slots figure_count 3 (figure_groups empty_ledger) refl
    (λ h p k. refl, (λ h p k. refl, (λ h p k. refl, (λ h p k. refl, (λ h p k. refl, (λ h p k. refl, (λ h p k. refl, (λ h s k. nothing_filed k, (λ h s k. nothing_filed k, (λ h s k. refl, tt)))))))))))

pub empty_posted : replicate posted_count false ≡ posted_of empty_ledger
unfolding posted_of posted_groups empty_ledger
empty_posted =
    shown_is posted_slots false (in_slot false (posted_groups empty_ledger)) (replicate posted_count false) [] (omega arith)
    (filled-shows false posted_slots posted_count 0 (posted_groups empty_ledger) refl
    (λ h p k. refl, (λ h p k. refl, (λ h p k. refl, (λ h p k. refl, tt)))))

nothing_shown : replicate evidence_count empty_entry ≡ evidence_of empty_ledger
unfolding evidence_of evidence_groups empty_ledger
nothing_shown =
    shown_is evidence_slots empty_entry (in_slot empty_entry (evidence_groups empty_ledger)) (replicate evidence_count empty_entry) [] (omega arith)
    (filled-shows empty_entry evidence_slots evidence_count 0 (evidence_groups empty_ledger) refl (λ h p k. refl, tt))

-- the entry is told by its fields, as code makes it
pub empty_evidence : (none : Entry) → none.evidence ≡ Empty → none.first ≡ 0 → none.last ≡ 0 → none.ten_year ≡ false → replicate evidence_count none ≡ evidence_of empty_ledger
unfolding empty_entry
empty_evidence none evidence first last mark = ap (replicate evidence_count) (λ i. record { evidence = evidence i; first = first i; last = last i; ten_year = mark i }) ∙ nothing_shown
