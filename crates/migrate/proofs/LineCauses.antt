-- The causes of a migration, from the tests of the code on its lines and pairs. Assumes nothing.
use Prim.Native.Nat.{ℕ, zero, suc, ◌+◌, ◌-◌, ◌*◌, ◌^◌, ◌≤◌, ◌<◌, zero-le}
use mathlib.Core.Path.{◌≡◌, refl, sym, ap, ap₂, ◌∙◌}
use mathlib.Core.Bool.{Bool, true, false, cond, not, ◌&&◌, ◌||◌}
use mathlib.Core.List.{List, [], ◌∷◌}
use mathlib.Core.Logic.{◌⊎◌, inl, inr}
use native.Mathlib.Nat.{le_trans, le_of_eq, le_refl, le-suc, div-le_self}
use native.Mathlib.Omega.{arith}
use lib.ListN.{length, replicate, get_or-replicate}
use Rattle.records.specs.declared.setup.KeptOpening.{KeptOpening}
use Rattle.std.specs.Prelude.{Some, None}
use Rattle.std.specs.Option.{unwrap_or}
use lib.Dec.{leb, ltb}
use borrow.Author.Tests.{leb-true, leb-false, le-leb, lt-leb, ltb-false, not-true}
use Rattle.tariff.specs.Sizes.{last_term, terms, max_class_lines}
use Rattle.netting.specs.declared.netting.ClassLine.{ClassLine}
use Rattle.source_evidence.specs.declared.evidence.Entry.{Entry}
use Rattle.tariff.specs.Sum.{sum_to, any_below, any_of}
use Rattle.tariff.specs.Ranges.{term_out_of_range}
use Rattle.netting.specs.ClassRanges.{class_line_out_of_range}
use Rattle.netting.specs.Migration.{netted, lost_by, watts_one_way}
use Rattle.netting.specs.Netting.{same_counts, pair_at, pair_cells, holder_at, class_line_at, class_lines_of, unfit_line, lines_fit, netting_of, SameLengths}
use Rattle.tariff.proofs.Sums.{sum_ext, sum_bound}
use Rattle.tariff.proofs.Tests.{or_unmet, and_both, and_join, decided}
use Rattle.tariff.proofs.Lists.{length_tabulate}
use Rattle.netting.proofs.Pairs.{pair_of_cells, cell_below}
use Rattle.netting.proofs.FitLines.{counted}
use Rattle.ledger.specs.Opening.{Opening}
use Rattle.ledger.specs.Ranges.{unknown_holder, unknown_holder_in, migration_out_of_range}
use Rattle.ledger.specs.Migration.{load_before}
use Rattle.ledger.specs.Causes.{loss_exceeds_load}
use Rattle.ledger.proofs.SumBounds.{watts_fit}
use Rattle.transfers.specs.declared.transfers.Transfer.{Transfer}
use Rattle.records.specs.Opening.{opening_in}
use Rattle.slots.specs.Layout.{load_slot, ledger_in}
use Rattle.slots.proofs.Figures.{from_zero}
use Rattle.migrate.specs.Lines.{transfer_of}
use Rattle.transfers.proofs.ColumnLaws.{column_holder}

-- tests that agree below n
pub any_ext : (n : ℕ) (s t : ℕ → Bool) → ((i : ℕ) → i < n → s i ≡ t i) → any_below n s ≡ any_below n t
unfolding any_below
any_ext zero s t e = refl
any_ext (suc n) s t e = ap₂ (λ a b. a || b) (any_ext n s t (λ i l. e i (le_trans l (le-suc n)))) (e n (le_refl (suc n)))

module _ {A : Type 0} where
  -- lines that fail two tests fail a third
  any_none : (xs : List A) (s t u : A → Bool) → ((x : A) → s x ≡ false → t x ≡ false → u x ≡ false) → any_of xs s ≡ false → any_of xs t ≡ false → any_of xs u ≡ false
  unfolding any_of
  any_none [] s t u imp a b = refl
  any_none (x ∷ xs) s t u imp a b =
      let p = or_unmet (s x) (any_of xs s) a in
      let q = or_unmet (t x) (any_of xs t) b in
      λ i. imp x p.0 q.0 i || any_none xs s t u imp p.1 q.1 i

module _ (froms tos classes customers watts : List ℕ) where
  abbrev pub lines : List ClassLine
  lines = class_lines_of froms tos classes customers watts

  pub line_count : length lines ≡ length froms
  unfolding class_lines_of
  line_count = length_tabulate (length froms) (class_line_at froms tos classes customers watts)

  -- a migration in range has at most 64 lines, none wrong, and a term that there is
  pub in_range : (term : ℕ) → migration_out_of_range term lines ≡ false → (length froms ≤ max_class_lines) × (any_of lines class_line_out_of_range ≡ false)
  unfolding migration_out_of_range
  in_range term e =
      let both = or_unmet (term_out_of_range term || ltb max_class_lines (length lines)) (any_of lines class_line_out_of_range) e in
      let first = or_unmet (term_out_of_range term) (ltb max_class_lines (length lines)) both.0 in
      (le_trans (le_of_eq (sym line_count)) (ltb-false max_class_lines (length lines) first.1), both.1)

  -- lines with holders in the book and fields in range are fit to be netted
  pub lines_fit_lem : (o : Opening) → o.holders ≤ 8 → SameLengths froms tos classes customers watts → unknown_holder_in o lines ≡ false → length froms ≤ max_class_lines → any_of lines class_line_out_of_range ≡ false → lines_fit froms tos classes customers watts ≡ true
  unfolding lines_fit unknown_holder_in unknown_holder unfit_line
  lines_fit_lem o few same known short right =
      and_join (and_join (le-leb (length froms) max_class_lines short) (counted froms tos classes customers watts same))
      (ap not (any_none lines (λ l. unknown_holder o l.from || unknown_holder o l.to) class_line_out_of_range unfit_line fit known right))
    where
      fit : (l : ClassLine) → (leb o.holders l.from || leb o.holders l.to) ≡ false → class_line_out_of_range l ≡ false → (leb 8 l.from || leb 8 l.to || class_line_out_of_range l) ≡ false
      fit l a b =
          let both = or_unmet (leb o.holders l.from) (leb o.holders l.to) a in
          let x = leb-false o.holders l.from both.0 in
          let y = leb-false o.holders l.to both.1 in
          let p : leb 8 l.from ≡ false = lt-leb 8 l.from (omega arith) in
          let q : leb 8 l.to ≡ false = lt-leb 8 l.to (omega arith) in
          λ i. (p i || q i) || b i

  -- the m of each pair, 0 where the lines are unfit
  abbrev ms : List ℕ
  ms = unwrap_or (netting_of froms tos classes customers watts) (replicate 64 0)

  ms_if : Bool → List ℕ
  ms_if fit = unwrap_or (cond fit (Some (pair_cells (netted lines))) None) (replicate 64 0)

  pub m_of_lines : (i j : ℕ) → i < 8 → j < 8 → lines_fit froms tos classes customers watts ≡ true → pair_at ms i j ≡ netted lines i j
  unfolding netting_of ms_if
  m_of_lines i j li lj e = ap (λ b. pair_at (ms_if b) i j) e ∙ pair_of_cells (netted lines) i j li lj

  m-bound : (i j : ℕ) → i < 8 → j < 8 → pair_at ms i j ≤ 64 * (9999999 * 9999999)
  unfolding netting_of lines_fit netted unfit_line ms_if pair_at
  m-bound i j li lj = go (decided (lines_fit froms tos classes customers watts))
    where
      go : (lines_fit froms tos classes customers watts ≡ true) ⊎ (lines_fit froms tos classes customers watts ≡ false) → pair_at ms i j ≤ 64 * (9999999 * 9999999)
      go (inl e) =
          let both = and_both (leb (length froms) max_class_lines && same_counts froms tos classes customers watts) (not (any_of lines unfit_line)) e in
          let short = leb-true (length froms) max_class_lines (and_both (leb (length froms) max_class_lines) (same_counts froms tos classes customers watts) both.0).0 in
          let none = not-true (any_of lines unfit_line) both.1 in
          let right = any_none lines unfit_line unfit_line class_line_out_of_range (λ l a b. (or_unmet (leb 8 l.from || leb 8 l.to) (class_line_out_of_range l) a).1) none none in
          let all = watts_fit lines i j (le_trans (le_of_eq line_count) short) right in
          le_trans (le_of_eq (m_of_lines i j li lj e)) (le_trans (div-le_self (watts_one_way lines i j - watts_one_way lines j i) 1000) (omega arith))
      go (inr e) = le_trans (le_of_eq (ap (λ b. pair_at (ms_if b) i j) e ∙ get_or-replicate 64 (i * 8 + j) 0 0 (cell_below i j li lj))) zero-le

  module _ (o : KeptOpening) (f : List ℕ) (term sink : ℕ) (x : Transfer) (is : x ≡ transfer_of o f term sink froms tos classes customers watts) (few : (opening_in o).holders ≤ 8) where
    -- what the code sums fits
    pub losses_fit : (x.holders ≤ 8) × ((i : ℕ) → i < 8 → sum_to x.holders (λ j. pair_at x.m i j) < 2 ^ 64)
    unfolding transfer_of
    losses_fit =
        (count, λ i l. let all = sum_bound {f = λ j. pair_at x.m i j} (64 * (9999999 * 9999999)) x.holders (λ j r. le_trans (le_of_eq (ap (λ y. pair_at y.m i j) is)) (m-bound i j l (let n = count in omega arith))) in let n = count in omega arith)
      where
        count : x.holders ≤ 8
        count = le_trans (le_of_eq (ap (λ y. y.holders) is)) few

    module _ (m : List Bool) (e : List Entry) (in_sinks : sink < 16) (in_term : term ≤ last_term) where
      -- the loads before
      pub load_before_lem : (i : ℕ) → i < 8 → holder_at x.load i ≡ load_before (ledger_in f m e) term sink i
      unfolding transfer_of load_before ledger_in
      load_before_lem i l = ap (λ y. holder_at y.load i) is ∙ column_holder f sink (load_slot + term) i l ∙ from_zero f load_slot terms i sink term l in_sinks (omega arith)

      pub loss_cause : lines_fit froms tos classes customers watts ≡ true → any_below x.holders (λ i. ltb (holder_at x.load i) (sum_to x.holders (λ j. pair_at x.m i j))) ≡ loss_exceeds_load (opening_in o) (ledger_in f m e) term sink lines
      unfolding transfer_of loss_exceeds_load lost_by
      loss_cause fit =
          ap (λ n. any_below n (λ i. ltb (holder_at x.load i) (sum_to n (λ j. pair_at x.m i j)))) (ap (λ y. y.holders) is)
          ∙ any_ext (opening_in o).holders (λ i. ltb (holder_at x.load i) (sum_to (opening_in o).holders (λ j. pair_at x.m i j))) (λ i. ltb (load_before (ledger_in f m e) term sink i) (sum_to (opening_in o).holders (λ j. netted lines i j)))
          (λ i l. ap₂ ltb (load_before_lem i (omega arith)) (sum_ext {f = λ j. pair_at x.m i j} {g = λ j. netted lines i j} (opening_in o).holders (λ j r. ap (λ y. pair_at y.m i j) is ∙ m_of_lines i j (omega arith) (omega arith) fit)))
