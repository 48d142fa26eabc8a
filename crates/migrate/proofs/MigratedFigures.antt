-- The figures after an accepted migration are those of the ledger's next step. Assumes nothing.
use Prim.Native.Nat.{ℕ, ◌+◌, ◌≤◌, ◌<◌}
use mathlib.Core.Path.{◌≡◌, sym, ap, ◌∙◌}
use mathlib.Core.Bool.{Bool, cond, not, ◌&&◌, and_assoc}
use mathlib.Core.List.{List, [], ◌∷◌}
use mathlib.Core.Logic.{inl, inr}
use native.Mathlib.Nat.{zero-add}
use native.Mathlib.Omega.{arith}
use lib.Dec.{eqb}
use Rattle.records.specs.declared.setup.KeptOpening.{KeptOpening}
use Rattle.tariff.specs.Sizes.{last_month, last_term, terms, evidence_kinds, ownership, contract}
use Rattle.source_evidence.specs.declared.evidence.Entry.{Entry}
use Rattle.tariff.specs.Terms.{has_month}
use Rattle.source_evidence.specs.Evidence.{is_ten_year}
use Rattle.netting.specs.declared.netting.ClassLine.{ClassLine}
use Rattle.netting.specs.Netting.{class_lines_of, SameLengths}
use Rattle.ledger.specs.Opening.{Opening, has_base}
use Rattle.ledger.specs.Ledger.{Ledger}
use Rattle.ledger.specs.Call.{migrate}
use Rattle.ledger.specs.Effects.{effect}
use Rattle.ledger.specs.Migration.{transferred_where, loads_after, rights_after, priors_after, load_after, column_after, migrated}
use Rattle.ledger.proofs.TierFacts.{MigrateFacts}
use Rattle.records.specs.Opening.{opening_in}
use Rattle.slots.specs.Groups.{slots_of, in_slot}
use Rattle.slots.specs.Coverage.{coverage}
use Rattle.slots.specs.Layout.{load_slot, prior_allocated_slot, prior_remaining_slot, carried_slot, awarded_slot, nominated_slot, awards_slot, tier_slots, ownership_slot, contract_slot, ten_year_slot, flag, figure_slots, figure_groups, calendar_of, figures_of, ledger_in}
use Rattle.slots.specs.Steps.{Reachable}
use Rattle.slots.proofs.CellLaws.{shown_is, shows_agree}
use Rattle.slots.proofs.Reachable.{figures_shown}
use Rattle.transfers.specs.declared.transfers.Transfer.{Transfer}
use Rattle.transfers.specs.Columns.{ColumnTransfer}
use Rattle.transfers.specs.Transfers.{load_column, share_column, slot_moves, moves_at, column_where, load_at}
use Rattle.migrate.specs.Lines.{transfer_of}
use Rattle.transfers.proofs.WhereLaws.{where_off}
use Rattle.migrate.proofs.SlotTests.{prior_moves, remaining_moves, carried_moves, awarded_moves, still}
use Rattle.migrate.proofs.GroupTransfers.{Change, change, before, afterwards, EachMoves, slot_moves_lem}
use Rattle.migrate.proofs.CoveredLaws.{no_load, load_after_lem, column_after_lem}

module _ (o : KeptOpening) (f : List ℕ) (m : List Bool) (e : List Entry) (r : Reachable o f m e) (term sink : ℕ) (froms tos classes customers watts : List ℕ) (same : SameLengths froms tos classes customers watts) (facts : MigrateFacts (opening_in o) (ledger_in f m e) term sink (class_lines_of froms tos classes customers watts)) where
  abbrev O : Opening
  O = opening_in o

  abbrev L : Ledger
  L = ledger_in f m e

  abbrev lines : List ClassLine
  lines = class_lines_of froms tos classes customers watts

  abbrev next : Ledger
  next = effect O L (migrate term sink lines)

  abbrev x : Transfer
  x = transfer_of o f term sink froms tos classes customers watts

  -- both transfers of a column, the load's first
  abbrev column : ℕ → ℕ → (ℕ → ℕ) → ℕ → ℕ
  column p slot v h = column_where (moves_at O term sink) (share_column x) p slot (column_where (load_at term sink) (load_column x) p slot v) h

  few : term ≤ last_term
  few = facts.term_in_range

  -- a load, whose slot no right has
  load_moves : (p j h : ℕ) (v : ℕ → ℕ) → h < 8 → j < terms → column p (load_slot + j) v h ≡ cond (eqb p sink && eqb (j + 0) term) (load_after O lines v h) (v h)
  unfolding column_where load_at
  load_moves p j h v l k =
      where_off (share_column x) (moves_at O term sink) p (load_slot + j) (column_where (load_at term sink) (load_column x) p (load_slot + j) v) h (still O term sink p (load_slot + j) few (inl (omega arith)))
      ∙ (λ i. cond (eqb p sink && eqb (number i) (zero-add term i)) (load_after_lem o f m e r term sink froms tos classes customers watts same facts v h l i) (v h))
    where
      number : load_slot + j ≡ j + 0
      number = omega arith

  -- a record of a path, which no load shares its slot with
  right-moves : (p slot h : ℕ) (v : ℕ → ℕ) (t : Bool) → h < 8 → prior_allocated_slot ≤ slot → slot_moves term slot ≡ t → column p slot v h ≡ cond (has_base O sink p && t) (column_after O L term sink lines v h) (v h)
  unfolding column_where moves_at
  right-moves p slot h v t l low is =
      (λ i. column_where (moves_at O term sink) (share_column x) p slot (λ n. where_off (load_column x) (load_at term sink) p slot v n (no_load term sink p slot few low) i) h)
      ∙ (λ i. cond (has_base O sink p && is i) (column_after_lem o f m e r term sink froms tos classes customers watts same facts v h l i) (v h))

  -- any other
  stays : (p slot h : ℕ) (v : ℕ → ℕ) → nominated_slot ≤ slot → column p slot v h ≡ v h
  stays p slot h v past =
      where_off (share_column x) (moves_at O term sink) p slot (column_where (load_at term sink) (load_column x) p slot v) h (still O term sink p slot few (inr past))
      ∙ where_off (load_column x) (load_at term sink) p slot v h (no_load term sink p slot few (omega arith))

  abbrev changes : List Change
  changes =
      change terms 0 L.loads.kw next.loads.kw
      ∷ change 1 0 (λ h p k. L.priors.allocated h p) (λ h p k. next.priors.allocated h p)
      ∷ change 1 0 (λ h p k. L.priors.remaining h p) (λ h p k. next.priors.remaining h p)
      ∷ change last_month 1 L.rights.carried next.rights.carried
      ∷ change last_month 1 L.rights.awarded next.rights.awarded
      ∷ change 1 0 (λ h p k. L.tiers.nominated h p L.tiers.current_tier) (λ h p k. next.tiers.nominated h p next.tiers.current_tier)
      ∷ change tier_slots 0 L.tiers.awards next.tiers.awards
      ∷ change terms 0 (λ h s n. coverage n (L.evidence.entry h s ownership)) (λ h s n. coverage n (next.evidence.entry h s ownership))
      ∷ change terms 0 (λ h s n. coverage n (L.evidence.entry h s contract)) (λ h s n. coverage n (next.evidence.entry h s contract))
      ∷ change evidence_kinds 1 (λ h s kind. flag (is_ten_year (L.evidence.entry h s kind))) (λ h s kind. flag (is_ten_year (next.evidence.entry h s kind)))
      ∷ []

  each-moves : (h p : ℕ) → h < 8 → EachMoves column h p 0 changes
  unfolding effect migrated loads_after rights_after priors_after transferred_where
  each-moves h p l = (
    λ j k. load_moves p j h (λ i. L.loads.kw i p (j + 0)) l k,
    (
      λ j k. right-moves p (prior_allocated_slot + j) h (λ i. L.priors.allocated i p) (eqb term 0) l (omega arith) (prior_moves term j few k),
      (
        λ j k. right-moves p (prior_remaining_slot + j) h (λ i. L.priors.remaining i p) (eqb term 0) l (omega arith) (remaining_moves term j few k),
        (
          λ j k. right-moves p (carried_slot + j) h (λ i. L.rights.carried i p (j + 1)) (has_month term (j + 1)) l (omega arith) (carried_moves term j few k),
          (
            λ j k. right-moves p (awarded_slot + j) h (λ i. L.rights.awarded i p (j + 1)) (has_month term (j + 1) && not (eqb term 0)) l (omega arith) (awarded_moves term j few k) ∙ ap (λ t. cond t (column_after O L term sink lines (λ i. L.rights.awarded i p (j + 1)) h) (L.rights.awarded h p (j + 1))) (sym (and_assoc (has_base O sink p) (has_month term (j + 1)) (not (eqb term 0)))),
            (
              λ j k. stays p (nominated_slot + j) h (λ i. L.tiers.nominated i p L.tiers.current_tier) (omega arith),
              (
                λ j k. stays p (awards_slot + j) h (λ i. L.tiers.awards i p (j + 0)) (omega arith),
                (
                  λ j k. stays p (ownership_slot + j) h (λ i. coverage (j + 0) (L.evidence.entry i p ownership)) (omega arith),
                  (
                    λ j k. stays p (contract_slot + j) h (λ i. coverage (j + 0) (L.evidence.entry i p contract)) (omega arith),
                    (
                      λ j k. stays p (ten_year_slot + j) h (λ i. flag (is_ten_year (L.evidence.entry i p (j + 1)))) (omega arith),
                      tt,
                    ),
                  ),
                ),
              ),
            ),
          ),
        ),
      ),
    ),
  )

  pub figures_migrated : (one two : List ℕ) → ColumnTransfer (column_where (load_at term sink) (load_column x)) f one → ColumnTransfer (column_where (moves_at O term sink) (share_column x)) one two → two ≡ figures_of next
  unfolding figures_of figure_groups calendar_of before afterwards slots_of effect migrated
  figures_migrated one two a b =
      shown_is figure_slots 0 (in_slot 0 (figure_groups next)) two (calendar_of L) (omega arith)
      (shows_agree figure_slots 0 (λ h p slot. column p slot (λ i. in_slot 0 (figure_groups L) i p slot) h) (in_slot 0 (figure_groups next)) two (calendar_of L)
      (b (λ h p slot. column_where (load_at term sink) (load_column x) p slot (λ i. in_slot 0 (figure_groups L) i p slot) h) (calendar_of L) (a (in_slot 0 (figure_groups L)) (calendar_of L) (figures_shown o f m e r)))
      (λ h p slot c. ap (λ n. column p n (λ i. in_slot 0 (figure_groups L) i p slot) h) (sym (zero-add slot)) ∙ slot_moves_lem column h p 0 slot changes c.in_row (each-moves h p c.holder)))
