-- From the fit lines to the netting that the definition gives. Assumes nothing.
use Prim.Native.Nat.{ℕ, ◌-◌, ◌*◌, ◌/◌, ◌≤◌, ◌<◌}
use mathlib.Core.Path.{◌≡◌, sym, ap, ◌∙◌}
use mathlib.Core.Bool.{true, false, cond, not, ◌&&◌, ◌||◌}
use mathlib.Core.List.{List}
use lib.ListN.{length}
use lib.Dec.{leb, ltb, eqb}
use borrow.Author.Tests.{leb-true, leb-false, ltb-false, not-true}
use Rattle.netting.specs.declared.netting.ClassLine.{ClassLine}
use Rattle.std.specs.Prelude.{Some, None}
use Rattle.tariff.specs.Sum.{when_true, any_of}
use Rattle.netting.specs.Migration.{watts_one_way, netted}
use Rattle.tariff.specs.Ranges.{within}
use Rattle.netting.specs.ClassRanges.{class_line_out_of_range, class_fields_out_of_range}
use Rattle.netting.specs.Netting.{same_counts, pair_at, pair_cells, SummableLines, class_line_at, class_lines_of, unfit_line, lines_fit, watts_to, netting_of}
use Rattle.tariff.proofs.Tests.{or_unmet, and_both, none_below}
use Rattle.tariff.proofs.Lists.{sum_tabulate}
use Rattle.netting.proofs.FitLines.{unfit_at, any_line, length_tests}
use Rattle.netting.proofs.Pairs.{HoldsWatts, same_cells}

-- what is known of a line that is not unfit
line_facts : (l : ClassLine) → unfit_line l ≡ false → (l.from < 8) × (l.to < 8) × (l.customers ≤ 9999999) × (l.watts ≤ 9999999)
unfolding unfit_line class_line_out_of_range class_fields_out_of_range
line_facts l e =
    let range = or_unmet (leb 8 l.from || leb 8 l.to) (not (within 1 8 l.class) || ltb 9999999 l.customers || ltb 9999999 l.watts) e in
    let holders = or_unmet (leb 8 l.from) (leb 8 l.to) range.0 in
    let watts = or_unmet (not (within 1 8 l.class) || ltb 9999999 l.customers) (ltb 9999999 l.watts) range.1 in
    let customers = or_unmet (not (within 1 8 l.class)) (ltb 9999999 l.customers) watts.0 in
    (leb-false 8 l.from holders.0, leb-false 8 l.to holders.1, ltb-false 9999999 l.customers customers.1, ltb-false 9999999 l.watts watts.1)

module _ (froms tos classes customers watts : List ℕ) where
  -- lines that are fit can be summed
  pub summable : lines_fit froms tos classes customers watts ≡ true → SummableLines froms tos customers watts
  unfolding lines_fit
  summable e =
      let both = and_both (length_tests froms tos classes customers watts) (not (any_of (class_lines_of froms tos classes customers watts) unfit_line)) e in
      let counted = and_both (leb (length froms) 64) (same_counts froms tos classes customers watts) both.0 in
      let none : (k : ℕ) → k < length froms → unfit_at froms tos classes customers watts k ≡ false =
      none_below (length froms) (unfit_at froms tos classes customers watts) (sym (any_line froms tos classes customers watts unfit_line) ∙ not-true (any_of (class_lines_of froms tos classes customers watts) unfit_line) both.1) in
      record {
        few = leb-true (length froms) 64 counted.0;
        holders = λ k l. let f = line_facts (class_line_at froms tos classes customers watts k) (none k l) in (f.0, f.1);
        sizes = λ k l. let f = line_facts (class_line_at froms tos classes customers watts k) (none k l) in (f.2, f.3);
      }

  -- the watts of the lines, summed by their places
  one_way : (i j : ℕ) → watts_one_way (class_lines_of froms tos classes customers watts) i j ≡ watts_to froms tos customers watts (length froms) i j
  unfolding watts_one_way watts_to class_lines_of
  one_way i j = sum_tabulate (length froms) (class_line_at froms tos classes customers watts) (λ l. when_true (eqb l.from i && eqb l.to j) (l.customers * l.watts))

  pub netting_fit : (cells m : List ℕ) → lines_fit froms tos classes customers watts ≡ true → HoldsWatts froms tos customers watts (length froms) cells → m ≡ pair_cells (λ i j. (pair_at cells i j - pair_at cells j i) / 1000) → Some m ≡ netting_of froms tos classes customers watts
  unfolding netting_of netted
  netting_fit cells m e holds q =
      ap Some (q ∙ same_cells (λ i j. (pair_at cells i j - pair_at cells j i) / 1000) (netted (class_lines_of froms tos classes customers watts)) cell)
      ∙ sym (ap (λ b. cond b (Some (pair_cells (netted (class_lines_of froms tos classes customers watts)))) None) e)
    where
      cell : (i j : ℕ) → i < 8 → j < 8 → (pair_at cells i j - pair_at cells j i) / 1000 ≡ netted (class_lines_of froms tos classes customers watts) i j
      cell i j li lj = λ t. ((holds i j li lj ∙ sym (one_way i j)) t - (holds j i lj li ∙ sym (one_way j i)) t) / 1000

  pub netting_unfit : lines_fit froms tos classes customers watts ≡ false → None ≡ netting_of froms tos classes customers watts
  unfolding netting_of
  netting_unfit e = sym (ap (λ b. cond b (Some (pair_cells (netted (class_lines_of froms tos classes customers watts)))) None) e)
