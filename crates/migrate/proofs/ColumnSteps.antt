-- Columns of the first lines, one line more at a time. Assumes nothing.
use Rattle.std.proofs.Common.{◌≡◌, ℕ, zero, suc, ◌+◌, ◌<◌, ◌≤◌, true, false, List, [], ◌∷◌, length, get_or, set, take, refl, sym, ap, ◌∙◌, add-one, arith}
use mathlib.Core.Logic.{◌⊎◌, inl, inr}
use lib.Seq.{get_or-set_same, get_or-set_other}
use Rattle.std.proofs.lemmas.List.{length-set}
use Rattle.std.proofs.lemmas.Grind.{same_number_lists}
use lib.Dec.{eqb}
use borrow.Author.Tests.{eqb-true, eqb-false}
use Rattle.tariff.proofs.Tests.{decided}
use Rattle.tariff.specs.Sizes.{max_class_lines}
use Rattle.tariff.specs.Sum.{tabulate}
use Rattle.tariff.proofs.Lists.{length_tabulate, at_tabulate}
use Rattle.netting.specs.declared.netting.ClassLine.{ClassLine}
use Rattle.migrate.specs.declared.class_lines.Columns.{Columns}
use Rattle.migrate.specs.ClassLines.{no_line, column_of, taken_apart}

-- the last of the first lines
last_line : (lines : List ClassLine) (k : ℕ) → k < length lines → get_or (take (suc k) lines) k no_line ≡ get_or lines k no_line
last_line [] k l = absurd (omega arith)
last_line (x ∷ xs) zero l = refl
last_line (x ∷ xs) (suc k) l = last_line xs k (omega arith)

-- a line more changes no other place
other_line : (lines : List ClassLine) (k j : ℕ) → (j ≡ k → ⊥) → get_or (take k lines) j no_line ≡ get_or (take (suc k) lines) j no_line
other_line [] zero j ne = refl
other_line [] (suc k) j ne = refl
other_line (x ∷ xs) zero zero ne = absurd (ne refl)
other_line (x ∷ []) zero (suc j) ne = refl
other_line (x ∷ y ∷ xs) zero (suc j) ne = refl
other_line (x ∷ xs) (suc k) zero ne = refl
other_line (x ∷ xs) (suc k) (suc j) ne = other_line xs k j (λ e. ne (ap suc e))

module _ (lines : List ClassLine) (k : ℕ) (there : k < length lines) (few : length lines ≤ max_class_lines) (field : ClassLine → ℕ) where
  abbrev at : (n j : ℕ) → ℕ
  at n j = field (get_or (take n lines) j no_line)

  -- a field of the next line, put in its place of the column
  one-more : set (column_of (take k lines) field) k (field (get_or lines k no_line)) ≡ column_of (take (suc k) lines) field
  unfolding column_of
  one-more =
      let before = tabulate max_class_lines (at k) in
      let after = tabulate max_class_lines (at (suc k)) in
      let long = length_tabulate max_class_lines (at k) in
      let longer = length-set before k (field (get_or lines k no_line)) in
      same_number_lists (set before k (field (get_or lines k no_line))) after (longer ∙ long ∙ sym (length_tabulate max_class_lines (at (suc k)))) (λ j l. go j (omega arith) (decided (eqb j k)))
    where
      go : (j : ℕ) → j < max_class_lines → (eqb j k ≡ true) ⊎ (eqb j k ≡ false) → get_or (set (tabulate max_class_lines (at k)) k (field (get_or lines k no_line))) j 0 ≡ get_or (tabulate max_class_lines (at (suc k))) j 0
      go j l (inl e) =
          let long = length_tabulate max_class_lines (at k) in
          ap (λ n. get_or (set (tabulate max_class_lines (at k)) k (field (get_or lines k no_line))) n 0) (eqb-true j k e)
          ∙ get_or-set_same (tabulate max_class_lines (at k)) k (field (get_or lines k no_line)) 0 (omega arith)
          ∙ ap field (sym (last_line lines k there))
          ∙ sym (at_tabulate max_class_lines (at (suc k)) 0 k (omega arith))
          ∙ ap (λ n. get_or (tabulate max_class_lines (at (suc k))) n 0) (sym (eqb-true j k e))
      go j l (inr e) =
          get_or-set_other (tabulate max_class_lines (at k)) k j (field (get_or lines k no_line)) 0 (eqb-false j k e)
          ∙ at_tabulate max_class_lines (at k) 0 j l
          ∙ ap field (other_line lines k j (eqb-false j k e))
          ∙ sym (at_tabulate max_class_lines (at (suc k)) 0 j l)

  column_more : set (column_of (take k lines) field) k (field (get_or lines k no_line)) ≡ column_of (take (k + 1) lines) field
  column_more = one-more ∙ ap (λ n. column_of (take n lines) field) (sym (add-one k))

-- the columns of the first lines, with the next line's fields in their places
pub line_more : (lines : List ClassLine) (k : ℕ) (all : Columns) → k < length lines → length lines ≤ max_class_lines → all ≡ taken_apart (take k lines) → record { froms = set all.froms k (get_or lines k no_line).from; tos = set all.tos k (get_or lines k no_line).to; classes = set all.classes k (get_or lines k no_line).class; customers = set all.customers k (get_or lines k no_line).customers; watts = set all.watts k (get_or lines k no_line).watts } ≡ taken_apart (take (k + 1) lines)
unfolding taken_apart
line_more lines k all there few are =
    let more = column_more lines k there few in
    λ i.
    record {
      froms = (ap (λ c. set c.froms k (get_or lines k no_line).from) are ∙ more (λ l. l.from)) i;
      tos = (ap (λ c. set c.tos k (get_or lines k no_line).to) are ∙ more (λ l. l.to)) i;
      classes = (ap (λ c. set c.classes k (get_or lines k no_line).class) are ∙ more (λ l. l.class)) i;
      customers = (ap (λ c. set c.customers k (get_or lines k no_line).customers) are ∙ more (λ l. l.customers)) i;
      watts = (ap (λ c. set c.watts k (get_or lines k no_line).watts) are ∙ more (λ l. l.watts)) i;
    }
