-- Class lines that are fit to be netted: the tests, and what they show. Assumes nothing.
use Prim.Native.Nat.{ℕ}
use mathlib.Core.Path.{◌≡◌, sym, ap, ◌∙◌}
use mathlib.Core.Bool.{Bool, true, ◌&&◌}
use mathlib.Core.List.{List, map}
use lib.ListN.{length}
use lib.Dec.{leb, eqb}
use borrow.Author.Tests.{eq-eqb, eqb-true}
use Rattle.std.specs.List.{list_any, range_with_len}
use Rattle.netting.specs.declared.netting.ClassLine.{ClassLine}
use Rattle.tariff.specs.Sum.{any_below, any_of}
use Rattle.netting.specs.Netting.{same_counts, SameLengths, class_line_at, class_lines_of, unfit_line}
use Rattle.tariff.proofs.Tests.{and_join, and_both}
use Rattle.tariff.proofs.Lists.{any_tabulate, any_is}
use Rattle.tariff.proofs.Counted.{mapped_range}

module _ (froms tos classes customers watts : List ℕ) where
  -- the test on the lines, line by line
  abbrev pub unfit_at : ℕ → Bool
  unfit_at k = unfit_line (class_line_at froms tos classes customers watts k)

  -- some line passes a test where one does at its place
  pub any_line : (passes : ClassLine → Bool) → any_of (class_lines_of froms tos classes customers watts) passes ≡ any_below (length froms) (λ k. passes (class_line_at froms tos classes customers watts k))
  unfolding class_lines_of
  any_line passes = any_tabulate (length froms) (class_line_at froms tos classes customers watts) passes

  -- and where the lines that an iterator gives have one that does
  pub found_line : (passes : ClassLine → Bool) → list_any passes (map (class_line_at froms tos classes customers watts) (range_with_len 0 (length froms))) ≡ any_of (class_lines_of froms tos classes customers watts) passes
  unfolding class_lines_of
  found_line passes =
      sym (any_is passes (map (class_line_at froms tos classes customers watts) (range_with_len 0 (length froms))))
      ∙ ap (λ lines. any_of lines passes) (mapped_range (length froms) (class_line_at froms tos classes customers watts))

  -- the tests on the lengths
  abbrev pub length_tests : Bool
  length_tests = leb (length froms) 64 && same_counts froms tos classes customers watts

  pub same_lengths_lem : same_counts froms tos classes customers watts ≡ true → SameLengths froms tos classes customers watts
  unfolding same_counts
  same_lengths_lem e =
      let three = and_both _ (eqb (length watts) (length froms)) e in
      let two = and_both _ (eqb (length customers) (length froms)) three.0 in
      let one = and_both (eqb (length tos) (length froms)) (eqb (length classes) (length froms)) two.0 in
      record { of_tos = eqb-true _ _ one.0; of_classes = eqb-true _ _ one.1; of_customers = eqb-true _ _ two.1; of_watts = eqb-true _ _ three.1 }

  pub counted : SameLengths froms tos classes customers watts → same_counts froms tos classes customers watts ≡ true
  unfolding same_counts
  counted same = and_join (and_join (and_join (eq-eqb (length tos) (length froms) same.of_tos) (eq-eqb (length classes) (length froms) same.of_classes)) (eq-eqb (length customers) (length froms) same.of_customers)) (eq-eqb (length watts) (length froms) same.of_watts)
