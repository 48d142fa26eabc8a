-- The refusal of a migration, and its outcome, from the results of the code's steps. Assumes nothing.
use Prim.Native.Nat.{ℕ, ◌+◌, ◌^◌, ◌≤◌, ◌<◌}
use mathlib.Core.Path.{◌≡◌, refl, sym, ap, ◌∙◌, subst}
use mathlib.Core.Bool.{Bool, true, false}
use mathlib.Core.List.{List, [], ◌∷◌}
use native.Mathlib.Nat.{le_trans}
use native.Mathlib.Omega.{arith}
use lib.ListN.{length, take}
use lib.Dec.{ltb}
use borrow.Author.Tests.{ltb-false, leb-false}
use Rattle.records.specs.declared.setup.KeptOpening.{KeptOpening}
use Rattle.tariff.specs.Sizes.{last_term, max_class_lines}
use Rattle.std.specs.Prelude.{Result, Ok, Err, Option, Some, None}
use Rattle.std.specs.Bool.{then_some}
use Rattle.std.proofs.lemmas.Option.{same_Some, none-some}
use Rattle.source_evidence.specs.declared.evidence.Entry.{Entry}
use Rattle.tariff.specs.Sum.{sum_to, any_below, any_of}
use Rattle.tariff.specs.Ranges.{term_out_of_range}
use Rattle.tariff.proofs.Tests.{or_unmet}
use Rattle.netting.specs.declared.netting.ClassLine.{ClassLine}
use Rattle.netting.specs.ClassRanges.{class_line_out_of_range}
use Rattle.netting.specs.declared.netting.ClassColumns.{ClassColumns}
use Rattle.netting.specs.declared.netting.ClassLines.{ClassLines}
use Rattle.netting.specs.Netting.{pair_at, holder_at}
use Rattle.netting.specs.Columns.{lines_in, same_counts_in, fit_in}
use Rattle.ledger.specs.Opening.{Opening}
use Rattle.ledger.specs.Ledger.{Ledger}
use Rattle.ledger.specs.Ranges.{unknown_sink, unknown_holder_in, migration_out_of_range}
use Rattle.ledger.specs.Numbers.{not_in_book, out_of_range, not_at_this_time, not_between_lses, loss_above_load, cause, first_met}
use Rattle.ledger.specs.Call.{migrate}
use Rattle.ledger.specs.Causes.{migrate_causes, call_causes, refusal, loss_exceeds_load}
use Rattle.ledger.specs.Effects.{effect}
use Rattle.ledger.specs.Migration.{migrated, loads_after, rights_after, priors_after}
use Rattle.ledger.proofs.Unmet.{unmet}
use Rattle.ledger.proofs.TierFacts.{MigrateFacts, migrate_facts}
use Rattle.records.specs.declared.refusal.Refusal.{Refusal}
use Rattle.records.specs.declared.refusal.Refusal.TheVariants.{Unreadable, LossAboveLoad}
use Rattle.records.specs.Opening.{opening_in}
use Rattle.records.specs.Refusals.{number_of}
use Rattle.records.proofs.CauseLaws.{no_more, first_part}
use Rattle.records.proofs.MetCauses.{met_first, unmet_first}
use Rattle.records.proofs.RefusalLaws.{numbered}
use Rattle.slots.specs.Layout.{load_slot, posted_groups, evidence_groups, posted_of, evidence_of, ledger_in}
use Rattle.slots.specs.Steps.{Reachable, Steps, StepsIf}
use Rattle.slots.proofs.Reachable.{counts, figures_known, posted_known, evidence_known}
use Rattle.slots.proofs.StepLaws.{accepted_test, steps_accepted, steps_refused}
use Rattle.transfers.specs.declared.transfers.Transfer.{Transfer}
use Rattle.transfers.specs.Columns.{HasColumn, column_at, ColumnTransfer}
use Rattle.transfers.specs.Transfers.{load_column, share_column, moves_at, column_where, load_at, LossesWithinLoads, RightsFit}
use Rattle.migrate.specs.Lines.{early_causes, transfer_of, transfer_in}
use Rattle.migrate.proofs.LineCauses.{in_range, lines_fit_lem, losses_fit, loss_cause}
use Rattle.migrate.proofs.CoveredLaws.{covered, rights_fit}
use Rattle.migrate.proofs.MigratedFigures.{figures_migrated}

module _ (o : KeptOpening) (f : List ℕ) (term sink : ℕ) (columns : ClassColumns) (m : List Bool) (e : List Entry) (reach : Reachable o f m e) where
  abbrev O : Opening
  O = opening_in o

  abbrev L : Ledger
  L = ledger_in f m e

  abbrev Outcome : Result (Unit {0}) Refusal → List ℕ → Type 0
  Outcome answer f' = StepsIf (same_counts_in columns) O L (migrate term sink (lines_in columns)) answer f' m e

  -- the columns where a test is true, else nothing
  abbrev told : Bool → Option ClassColumns
  told even = then_some even columns

  -- slices of unequal length
  pub uneven : None ≡ told (same_counts_in columns) → Outcome (Err Unreadable) f
  uneven none =
      record {
        equal = λ t. absurd (none-some columns (none ∙ ap told t));
        unequal = λ t. record { answered = refl; figures = figures_known o f m e reach; posted = posted_known o f m e reach; evidence = evidence_known o f m e reach };
      }

  module _ (these : ClassLines) (made : Some these.columns ≡ told (same_counts_in columns)) where
    abbrev lines : List ClassLine
    lines = lines_in these.columns

    abbrev x : Transfer
    x = transfer_in o f term sink these.columns

    outcome : (answer : Result (Unit {0}) Refusal) (f' : List ℕ) → Steps O L (migrate term sink lines) answer f' m e → Outcome answer f'
    outcome answer f' s =
        record {
          equal = λ t. subst (λ c. Steps O L (migrate term sink (lines_in c)) answer f' m e) (same_Some these.columns columns (made ∙ ap told t)) s;
          unequal = λ t. absurd (none-some these.columns (sym (made ∙ ap told t)));
        }

    -- an early cause that is met is the first of all
    early-found : (r : Refusal) → number_of r ≡ first_met (take early_causes (migrate_causes O L term sink lines)) → number_of r ≡ refusal O L (migrate term sink lines)
    unfolding refusal call_causes
    early-found r found = found ∙ first_part early_causes (migrate_causes O L term sink lines) (λ z. let low = (numbered r).0 in omega (arith, low, found, z))

    -- what is known where none is met
    record Early : Type 0 where
      sink_in_book : sink < O.sinks
      known : unknown_holder_in O lines ≡ false
      in_term : term ≤ last_term
      short : length these.columns.froms.now ≤ max_class_lines
      right : any_of lines class_line_out_of_range ≡ false
      later : (r : ℕ) → r ≡ first_met (cause loss_above_load (loss_exceeds_load O L term sink lines) ∷ []) → r ≡ refusal O L (migrate term sink lines)

    early : first_met (take early_causes (migrate_causes O L term sink lines)) ≡ 0 → Early
    unfolding migrate_causes refusal call_causes unknown_sink migration_out_of_range term_out_of_range
    early none =
        let r2 = unmet 1 _ _ none in
        let r3 = unmet 2 _ _ r2.1 in
        let r4 = unmet 3 _ _ r3.1 in
        let r8 = unmet 7 _ _ r4.1 in
        let in_book = or_unmet _ _ r2.0 in
        let range = in_range _ _ _ _ _ term r3.0 in
        let fields = or_unmet _ _ (or_unmet _ _ r3.0).0 in
        record {
          sink_in_book = leb-false _ _ in_book.0;
          known = in_book.1;
          in_term = ltb-false _ _ fields.0;
          short = range.0;
          right = range.1;
          later = λ r e. unmet_first not_in_book _ _ r2.0 (unmet_first out_of_range _ _ r3.0 (unmet_first not_at_this_time _ _ r4.0 (unmet_first not_between_lses _ _ r8.0 e)));
        }

    few : O.holders ≤ 8
    few = (counts o f m e reach).0

    pub early_refused : (r : Refusal) → number_of r ≡ first_met (take early_causes (migrate_causes O L term sink lines)) → Outcome (Err r) f
    early_refused r found = outcome (Err r) f (steps_refused o f m e (migrate term sink lines) r (early-found r found) reach)

    module _ (none : 0 ≡ first_met (take early_causes (migrate_causes O L term sink lines))) where
      past : Early
      past = early (sym none)

      in_sinks : sink < 16
      in_sinks = le_trans past.sink_in_book (counts o f m e reach).2

      pub load_there : HasColumn sink (load_slot + term)
      load_there = let t = past.in_term in record { place = in_sinks; in_row = omega arith }

      fit : fit_in these.columns ≡ true
      fit = lines_fit_lem _ _ _ _ _ O few these.same_lengths past.known past.short past.right

      module _ (y : Transfer) (is : y ≡ x) where
        pub losses : (y.holders ≤ 8) × ((i : ℕ) → i < 8 → sum_to y.holders (λ j. pair_at y.m i j) < 2 ^ 64)
        losses = losses_fit _ _ _ _ _ o f term sink y is few

        module _ (loss : Bool) (lost : loss ≡ any_below y.holders (λ i. ltb (holder_at y.load i) (sum_to y.holders (λ j. pair_at y.m i j)))) where
          loses : loss ≡ loss_exceeds_load O L term sink lines
          loses = lost ∙ loss_cause _ _ _ _ _ o f term sink y is few m e in_sinks past.in_term fit

          pub too_much : loss ≡ true → Outcome (Err LossAboveLoad) f
          too_much t = outcome (Err LossAboveLoad) f (steps_refused o f m e (migrate term sink lines) LossAboveLoad (past.later loss_above_load (met_first loss_above_load _ _ (sym loses ∙ t))) reach)

          module _ (covers : loss ≡ false) where
            unrefused : 0 ≡ refusal O L (migrate term sink lines)
            unrefused = past.later 0 (unmet_first loss_above_load _ _ (sym loses ∙ covers) no_more)

            facts : MigrateFacts O L term sink lines
            facts = migrate_facts O L term sink lines (accepted_test O L (migrate term sink lines) unrefused)

            pub load_needs : HasColumn y.sink (load_slot + y.term) × LossesWithinLoads y × (y.load ≡ column_at f y.sink (load_slot + y.term))
            unfolding transfer_of
            load_needs = subst (λ z. HasColumn z.sink (load_slot + z.term) × LossesWithinLoads z × (z.load ≡ column_at f z.sink (load_slot + z.term))) (sym is) (load_there, covered o f m e reach term sink _ _ _ _ _ these.same_lengths facts, refl)

            pub rights_needs : (one : List ℕ) → ColumnTransfer (column_where (load_at y.term y.sink) (load_column y)) f one → RightsFit o one y
            unfolding transfer_of
            rights_needs one = subst (λ z. ColumnTransfer (column_where (load_at z.term z.sink) (load_column z)) f one → RightsFit o one z) (sym is) (rights_fit o f m e reach term sink _ _ _ _ _ these.same_lengths facts one)

            stay : (posted_of L ≡ posted_of (effect O L (migrate term sink lines))) × (evidence_of L ≡ evidence_of (effect O L (migrate term sink lines)))
            unfolding posted_of posted_groups evidence_of evidence_groups effect migrated loads_after rights_after priors_after
            stay = (refl, refl)

            pub migrated_steps : (one two : List ℕ) → ColumnTransfer (column_where (load_at y.term y.sink) (load_column y)) f one → ColumnTransfer (column_where (moves_at O y.term y.sink) (share_column y)) one two → Outcome (Ok tt) two
            unfolding transfer_of
            migrated_steps one two a b =
                outcome (Ok tt) two
                (steps_accepted O L (migrate term sink lines) unrefused two m e
                (figures_migrated o f m e reach term sink _ _ _ _ _ these.same_lengths facts one two (subst (λ z. ColumnTransfer (column_where (load_at z.term z.sink) (load_column z)) f one) is a) (subst (λ z. ColumnTransfer (column_where (moves_at O z.term z.sink) (share_column z)) one two) is b))
                (posted_known o f m e reach ∙ stay.0)
                (evidence_known o f m e reach ∙ stay.1))
