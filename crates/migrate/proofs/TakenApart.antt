-- Class lines taken apart into columns: up to 64 lines are migrated as the columns are, and more are refused. Assumes nothing.
use Rattle.records.specs.declared.setup.KeptOpening.{KeptOpening}
use Rattle.std.proofs.Common.{◌≡◌, ℕ, ◌<◌, ◌≤◌, Bool, true, false, ◌||◌, List, length, get_or, take, sym, ap, subst, ◌∙◌, arith}
use mathlib.Core.Bool.{or-true}
use lib.Seq.{ext_get_or, get_or-take, length-take-le}
use Rattle.std.specs.Prelude.{Result, Err}
use Rattle.tariff.specs.Sizes.{max_class_lines}
use Rattle.tariff.specs.Sum.{any_of, tabulate}
use Rattle.tariff.proofs.Tests.{or_left_true}
use Rattle.tariff.proofs.Lists.{length_tabulate, at_tabulate}
use Rattle.netting.specs.declared.netting.ClassLine.{ClassLine}
use Rattle.netting.specs.Netting.{class_line_at, class_lines_of, same_counts}
use Rattle.netting.proofs.FitLines.{counted}
use borrow.Author.Tests.{lt-ltb}
use Rattle.source_evidence.specs.declared.evidence.Entry.{Entry}
use Rattle.tariff.specs.Ranges.{term_out_of_range}
use Rattle.netting.specs.ClassRanges.{class_line_out_of_range}
use Rattle.ledger.specs.Opening.{Opening}
use Rattle.ledger.specs.Ledger.{Ledger}
use Rattle.ledger.specs.Numbers.{not_in_book, out_of_range}
use Rattle.ledger.specs.Ranges.{unknown_sink, unknown_holder_in, migration_out_of_range}
use Rattle.ledger.specs.Call.{migrate}
use Rattle.ledger.specs.Causes.{migrate_causes, call_causes, refusal}
use Rattle.records.specs.declared.refusal.Refusal.{Refusal}
use Rattle.records.specs.declared.refusal.Refusal.TheVariants.{NotInBook, OutOfRange}
use Rattle.records.specs.Opening.{opening_in}
use Rattle.records.proofs.MetCauses.{met_first, unmet_first}
use Rattle.slots.specs.Layout.{ledger_in}
use Rattle.slots.specs.Steps.{Reachable, Steps, StepsIf}
use Rattle.slots.proofs.StepLaws.{steps_refused}
use Rattle.migrate.specs.declared.class_lines.Columns.{Columns}
use Rattle.migrate.specs.ClassLines.{no_line, column_of, taken_apart}

module _ (lines : List ClassLine) (few : length lines ≤ max_class_lines) where
  abbrev first : (ClassLine → ℕ) → List ℕ
  first field = take (length lines) (column_of lines field)

  column_long : (field : ClassLine → ℕ) → length (column_of lines field) ≡ max_class_lines
  unfolding column_of
  column_long field = length_tabulate max_class_lines (λ k. field (get_or lines k no_line))

  pub first_long : (field : ClassLine → ℕ) → length (first field) ≡ length lines
  first_long field = length-take-le (length lines) (column_of lines field) (let long = column_long field in omega arith)

  first-at : (field : ClassLine → ℕ) (k : ℕ) → k < length lines → get_or (first field) k 0 ≡ field (get_or lines k no_line)
  unfolding column_of
  first-at field k l = get_or-take (length lines) (column_of lines field) k 0 l ∙ at_tabulate max_class_lines (λ j. field (get_or lines j no_line)) 0 k (omega arith)

  abbrev froms : List ℕ
  froms = first (λ l. l.from)

  abbrev tos : List ℕ
  tos = first (λ l. l.to)

  abbrev classes : List ℕ
  classes = first (λ l. l.class)

  abbrev customers : List ℕ
  customers = first (λ l. l.customers)

  abbrev watts : List ℕ
  watts = first (λ l. l.watts)

  as_many : (field : ClassLine → ℕ) → length (first field) ≡ length froms
  as_many field = first_long field ∙ sym (first_long (λ l. l.from))

  pub evenly : same_counts froms tos classes customers watts ≡ true
  evenly =
      counted froms tos classes customers watts
      (record { of_tos = as_many (λ l. l.to); of_classes = as_many (λ l. l.class); of_customers = as_many (λ l. l.customers); of_watts = as_many (λ l. l.watts) })

  -- the columns have the lines whole
  pub lines-back : class_lines_of froms tos classes customers watts ≡ lines
  unfolding class_lines_of
  lines-back =
      let at = class_line_at froms tos classes customers watts in
      ap (λ n. tabulate n at) (first_long (λ l. l.from))
      ∙ ext_get_or no_line (tabulate (length lines) at) lines (length_tabulate (length lines) at) (λ k l.
      let below : k < length lines = let long = length_tabulate (length lines) at in omega arith in
      at_tabulate (length lines) at no_line k below
      ∙ (λ i.
      record {
        from = first-at (λ l. l.from) k below i;
        to = first-at (λ l. l.to) k below i;
        class = first-at (λ l. l.class) k below i;
        customers = first-at (λ l. l.customers) k below i;
        watts = first-at (λ l. l.watts) k below i;
      }))

module _ (o : KeptOpening) (f : List ℕ) (m : List Bool) (e : List Entry) (reach : Reachable o f m e) (term sink : ℕ) (lines : List ClassLine) where
  abbrev O : Opening
  O = opening_in o

  abbrev L : Ledger
  L = ledger_in f m e

  -- more than 64 lines: by cause 2 for an unknown sink or holder, else by 3
  pub stranger : (unknown_sink O sink || unknown_holder_in O lines) ≡ true → Steps O L (migrate term sink lines) (Err NotInBook) f m e
  unfolding refusal call_causes migrate_causes
  stranger unknown = steps_refused o f m e (migrate term sink lines) NotInBook (met_first not_in_book _ _ unknown) reach

  pub too_many : max_class_lines < length lines → (unknown_sink O sink || unknown_holder_in O lines) ≡ false → Steps O L (migrate term sink lines) (Err OutOfRange) f m e
  unfolding migration_out_of_range refusal call_causes migrate_causes
  too_many many known = steps_refused o f m e (migrate term sink lines) OutOfRange (unmet_first not_in_book _ _ known (met_first out_of_range _ _ out)) reach
    where
      out : migration_out_of_range term lines ≡ true
      out = or_left_true (any_of lines class_line_out_of_range) (ap (λ t. term_out_of_range term || t) (lt-ltb max_class_lines (length lines) many) ∙ or-true (term_out_of_range term))

  -- up to 64 lines: a migration of the columns is one of the lines
  pub moved : (all : Columns) (answer : Result (Unit {0}) Refusal) (f' : List ℕ) → length lines ≤ max_class_lines → all ≡ taken_apart lines → StepsIf (same_counts (take (length lines) all.froms) (take (length lines) all.tos) (take (length lines) all.classes) (take (length lines) all.customers) (take (length lines) all.watts)) O L (migrate term sink (class_lines_of (take (length lines) all.froms) (take (length lines) all.tos) (take (length lines) all.classes) (take (length lines) all.customers) (take (length lines) all.watts))) answer f' m e → Steps O L (migrate term sink lines) answer f' m e
  unfolding taken_apart
  moved all answer f' few is s =
      let first = λ (xs : List ℕ). take (length lines) xs in
      let whole = subst (λ (c : Columns). StepsIf (same_counts (first c.froms) (first c.tos) (first c.classes) (first c.customers) (first c.watts)) O L (migrate term sink (class_lines_of (first c.froms) (first c.tos) (first c.classes) (first c.customers) (first c.watts))) answer f' m e) is s in
      subst (λ ls. Steps O L (migrate term sink ls) answer f' m e) (lines-back lines few) (whole.equal (evenly lines few))
