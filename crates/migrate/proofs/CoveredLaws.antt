-- An accepted migration: no holder gives more than its load, and every column that moves fits 64 bits with its shares. Assumes nothing.
use Prim.Native.Nat.{ℕ, ◌+◌, ◌-◌, ◌≤◌, ◌<◌, zero-le}
use mathlib.Core.Path.{◌≡◌, refl, sym, ap, ap₂, ◌∙◌}
use mathlib.Core.Bool.{Bool, true, false}
use mathlib.Core.List.{List}
use mathlib.Core.Logic.{◌⊎◌, inl, inr}
use native.Mathlib.Nat.{le_trans, le_of_eq}
use native.Mathlib.Omega.{arith}
use lib.Dec.{ltb, eqb}
use borrow.Author.Tests.{ltb-true, ltb-false, ne_eqb}
use Rattle.records.specs.declared.setup.KeptOpening.{KeptOpening}
use Rattle.tariff.specs.Sizes.{last_month, last_term}
use Rattle.source_evidence.specs.declared.evidence.Entry.{Entry}
use Rattle.tariff.specs.Sum.{sum_to}
use Rattle.tariff.proofs.Sums.{sum_ext}
use Rattle.tariff.proofs.Tests.{and_right_false, decided}
use Rattle.netting.specs.declared.netting.ClassLine.{ClassLine}
use Rattle.netting.specs.Migration.{netted, lost_by, share, shares, transferred}
use Rattle.netting.specs.Netting.{pair_at, holder_at, class_lines_of, lines_fit, SameLengths}
use Rattle.ledger.specs.Opening.{Opening}
use Rattle.ledger.specs.Ledger.{Ledger}
use Rattle.ledger.specs.Call.{Call}
use Rattle.ledger.specs.Season.{after}
use Rattle.ledger.specs.Migration.{load_before, load_after, column_after}
use Rattle.ledger.proofs.Conserved.{carried_sum, awarded_sum, load_sum}
use Rattle.ledger.proofs.Bounds.{max_together, figures_fit}
use Rattle.ledger.proofs.TierFacts.{MigrateFacts}
use Rattle.ledger.proofs.Outside.{awarded_outside, netted_outside}
use Rattle.records.specs.Opening.{opening_in}
use Rattle.slots.specs.Cells.{read_at}
use Rattle.slots.specs.Layout.{load_slot, prior_allocated_slot, prior_remaining_slot, carried_slot, awarded_slot, nominated_slot, figure_slots, ledger_in}
use Rattle.slots.specs.Sums.{max_figure}
use Rattle.slots.specs.Steps.{Reachable}
use Rattle.slots.proofs.Reachable.{bases_known, known, counts, fits, figures_long}
use Rattle.slots.proofs.Figures.{by_number, from_zero}
use Rattle.transfers.specs.declared.transfers.Transfer.{Transfer}
use Rattle.transfers.specs.Columns.{in_column, ColumnTransfer}
use Rattle.transfers.specs.Transfers.{load_column, share_column, column_where, load_at, LossesWithinLoads, ColumnFits, RightsFit}
use Rattle.migrate.specs.Lines.{transfer_of}
use Rattle.transfers.proofs.ColumnLaws.{transferred_read}
use Rattle.transfers.proofs.WhereLaws.{where_off}
use Rattle.transfers.proofs.MovingLaws.{moving_slot}
use Rattle.migrate.proofs.LineCauses.{line_count, lines_fit_lem, m_of_lines, load_before_lem}

-- a load stands in a lower slot than any right
pub no_load : (term sink p slot : ℕ) → term ≤ last_term → prior_allocated_slot ≤ slot → load_at term sink p slot ≡ false
unfolding load_at
no_load term sink p slot few low = and_right_false (eqb p sink) (ne_eqb slot (load_slot + term) (λ q. omega (arith, q)))

module _ (o : KeptOpening) (f : List ℕ) (m : List Bool) (e : List Entry) (r : Reachable o f m e) (term sink : ℕ) (froms tos classes customers watts : List ℕ) (same : SameLengths froms tos classes customers watts) (facts : MigrateFacts (opening_in o) (ledger_in f m e) term sink (class_lines_of froms tos classes customers watts)) where
  abbrev O : Opening
  O = opening_in o

  abbrev L : Ledger
  L = ledger_in f m e

  abbrev lines : List ClassLine
  lines = class_lines_of froms tos classes customers watts

  abbrev x : Transfer
  x = transfer_of o f term sink froms tos classes customers watts

  few : O.holders ≤ 8
  few = (counts o f m e r).0

  in_sinks : sink < 16
  in_sinks = le_trans facts.sink_in_book (counts o f m e r).2

  fit : lines_fit froms tos classes customers watts ≡ true
  fit = lines_fit_lem froms tos classes customers watts O few same facts.holders (le_trans (le_of_eq (sym (line_count froms tos classes customers watts))) facts.few) facts.ranges

  m-is : (i j : ℕ) → i < 8 → j < 8 → pair_at x.m i j ≡ netted lines i j
  unfolding transfer_of
  m-is i j li lj = m_of_lines froms tos classes customers watts i j li lj fit

  load_is : (i : ℕ) → i < 8 → holder_at x.load i ≡ load_before L term sink i
  load_is i l = load_before_lem froms tos classes customers watts o f term sink x refl few m e in_sinks facts.term_in_range i l

  pub covered : LossesWithinLoads x
  unfolding transfer_of lost_by load_sum load_before
  covered =
      record {
        few = few;
        covered = λ i l. let n = few in le_trans (le_of_eq (sum_ext {f = λ j. pair_at x.m i j} {g = λ j. netted lines i j} O.holders (λ j k. m-is i j (omega arith) (omega arith)))) (le_trans (facts.fits i l) (le_of_eq (sym (load_is i (omega arith)))));
        loads = le_trans (le_of_eq (sum_ext {f = holder_at x.load} {g = λ i. L.loads.kw i sink term} O.holders (λ i l. load_is i (let n = few in omega arith)))) ((fits o f m e r).loads_fit sink term);
        others = λ i j li lj past. m-is i j li lj ∙ netted_outside O lines i j facts.holders past;
      }

  -- what is transferred is what the ledger moves
  pub load_after_lem : (v : ℕ → ℕ) (h : ℕ) → h < 8 → load_column x v h ≡ load_after O lines v h
  unfolding transfer_of load_column load_after transferred
  load_after_lem v h l =
      λ i. v h - sum_ext {f = λ j. pair_at x.m h j} {g = λ j. netted lines h j} O.holders (λ j k. m-is h j l (let n = few in omega arith)) i + sum_ext {f = λ j. pair_at x.m j h} {g = λ j. netted lines j h} O.holders (λ j k. m-is j h (let n = few in omega arith) l) i

  pub column_after_lem : (v : ℕ → ℕ) (h : ℕ) → h < 8 → share_column x v h ≡ column_after O L term sink lines v h
  unfolding transfer_of share_column column_after transferred shares
  column_after_lem v h l =
      λ i. v h - sum_ext {f = λ j. share (v h) (pair_at x.m h j) (holder_at x.load h)} {g = λ j. share (v h) (netted lines h j) (load_before L term sink h)} O.holders (λ j k. ap₂ (share (v h)) (m-is h j l (let n = few in omega arith)) (load_is h l)) i + sum_ext {f = λ j. share (v j) (pair_at x.m j h) (holder_at x.load j)} {g = λ j. share (v j) (netted lines j h) (load_before L term sink j)} O.holders (λ j k. ap₂ (share (v j)) (m-is j h (let n = few in omega arith) l) (load_is j (let n = few in omega arith))) i

  -- the holders' records at one place together
  together : (p slot : ℕ) (v : ℕ → ℕ) (most : ℕ) → ((i : ℕ) → i < 8 → in_column f p slot i ≡ v i) → sum_to O.holders v ≤ most → most ≤ max_figure → ColumnFits x (in_column f p slot)
  unfolding transfer_of
  together p slot v most is within l = le_trans (le_of_eq (sum_ext {f = in_column f p slot} {g = v} O.holders (λ i k. is i (let n = few in omega arith)))) (le_trans within l)

  awarded-sum : (p k : ℕ) → awarded_sum O p k L ≤ max_figure
  awarded-sum p k = known o f m e r (λ O L. awarded_sum O p k L ≤ max_figure) (λ O ok cs. go O cs (decided (ltb p O.paths)) (λ l. (figures_fit O ok cs).awarded_fit p k l))
    where
      go : (O : Opening) (cs : List Call) → (ltb p O.paths ≡ true) ⊎ (ltb p O.paths ≡ false) → (p < O.paths → awarded_sum O p k (after O cs) ≤ max_figure) → awarded_sum O p k (after O cs) ≤ max_figure
      go O cs (inl t) inside = inside (ltb-true p O.paths t)
      go O cs (inr t) inside = le_trans (le_of_eq (awarded_outside O p k (ltb-false p O.paths t) cs)) zero-le

  columns-fit : (p slot : ℕ) → p < 16 → prior_allocated_slot ≤ slot → slot < nominated_slot → ColumnFits x (in_column f p slot)
  unfolding ledger_in carried_sum awarded_sum
  columns-fit p slot place low high = go (decided (ltb slot prior_remaining_slot)) (decided (ltb slot carried_slot)) (decided (ltb slot awarded_slot))
    where
      go : (ltb slot prior_remaining_slot ≡ true) ⊎ (ltb slot prior_remaining_slot ≡ false) → (ltb slot carried_slot ≡ true) ⊎ (ltb slot carried_slot ≡ false) → (ltb slot awarded_slot ≡ true) ⊎ (ltb slot awarded_slot ≡ false) → ColumnFits x (in_column f p slot)
      go (inl a) b c =
          let l = ltb-true slot prior_remaining_slot a in
          together p slot (λ i. L.priors.allocated i p) max_together (λ i k. ap (read_at figure_slots 0 f i p) (let s : slot ≡ prior_allocated_slot + 0 = omega arith in s) ∙ from_zero f prior_allocated_slot 1 i p 0 k place (omega arith)) ((fits o f m e r).allocated_fit p) (omega arith)
      go (inr a) (inl b) c =
          let l = ltb-true slot carried_slot b in
          let g = ltb-false slot prior_remaining_slot a in
          together p slot (λ i. L.priors.remaining i p) max_together (λ i k. ap (read_at figure_slots 0 f i p) (let s : slot ≡ prior_remaining_slot + 0 = omega arith in s) ∙ from_zero f prior_remaining_slot 1 i p 0 k place (omega arith)) ((fits o f m e r).remaining_fit p) (omega arith)
      go (inr a) (inr b) (inl c) =
          let l = ltb-true slot awarded_slot c in
          let g = ltb-false slot carried_slot b in
          together p slot (λ i. L.rights.carried i p (slot + 1 - carried_slot)) max_together (λ i k. ap (read_at figure_slots 0 f i p) (let s : slot ≡ carried_slot + (slot + 1 - carried_slot - 1) = omega arith in s) ∙ by_number f carried_slot last_month i p (slot + 1 - carried_slot) k place 1 (omega arith) (omega arith)) ((fits o f m e r).carried_fit p (slot + 1 - carried_slot)) (omega arith)
      go (inr a) (inr b) (inr c) =
          let g = ltb-false slot awarded_slot c in
          together p slot (λ i. L.rights.awarded i p (slot + 1 - awarded_slot)) max_figure (λ i k. ap (read_at figure_slots 0 f i p) (let s : slot ≡ awarded_slot + (slot + 1 - awarded_slot - 1) = omega arith in s) ∙ by_number f awarded_slot last_month i p (slot + 1 - awarded_slot) k place 1 (omega arith) (omega arith)) (awarded-sum p (slot + 1 - awarded_slot)) (omega arith)

  -- the loads are transferred, and the rights are as they were
  pub rights_fit : (next : List ℕ) → ColumnTransfer (column_where (load_at term sink) (load_column x)) f next → RightsFit o next x
  unfolding transfer_of
  rights_fit next a p place =
      record {
        bases = bases_known o f m e r;
        in_term = facts.term_in_range;
        covered = covered;
        place = place;
        fits = λ slot high on. let low = moving_slot O term sink p slot facts.term_in_range on in le_trans (le_of_eq (sum_ext {f = in_column next p slot} {g = in_column f p slot} x.holders (λ i l. as_it_was slot low.0 low.1 i (let n = covered.few in omega arith)))) (columns-fit p slot place low.0 low.1);
      }
    where
      as_it_was : (slot : ℕ) → prior_allocated_slot ≤ slot → slot < nominated_slot → (i : ℕ) → i < 8 → in_column next p slot i ≡ in_column f p slot i
      as_it_was slot low high i l =
          transferred_read (column_where (load_at term sink) (load_column x)) f next (figures_long o f m e r) a i p slot (record { holder = l; place = place; in_row = omega arith })
          ∙ where_off (load_column x) (load_at term sink) p slot (in_column f p slot) i (no_load term sink p slot facts.term_in_range low)
