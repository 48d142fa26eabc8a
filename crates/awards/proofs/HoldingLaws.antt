-- What a query on holdings that meets no cause names, and how much the holdings on a path come to together. Assumes nothing.
use Prim.Native.Nat.{ℕ, ◌+◌, ◌-◌, ◌*◌, ◌≤◌, ◌<◌}
use mathlib.Core.Path.{◌≡◌, sym, ap₂, ◌∙◌}
use mathlib.Core.Bool.{Bool, false}
use mathlib.Core.List.{List}
use native.Mathlib.Nat.{le_trans, le_of_eq}
use native.Mathlib.Omega.{arith}
use borrow.Author.Tests.{leb-false}
use Rattle.records.specs.declared.setup.KeptOpening.{KeptOpening}
use Rattle.source_evidence.specs.declared.evidence.Entry.{Entry}
use Rattle.tariff.specs.Ranges.{month_out_of_range, within}
use Rattle.tariff.specs.Terms.{is_month}
use Rattle.tariff.specs.Sum.{sum_to}
use Rattle.tariff.specs.Sizes.{last_month}
use Rattle.tariff.proofs.Sums.{sum_add}
use Rattle.tariff.proofs.Tests.{or_unmet}
use Rattle.ledger.specs.Opening.{Opening}
use Rattle.ledger.specs.Ledger.{Ledger, empty_ledger}
use Rattle.ledger.specs.Ranges.{unknown_holder, unknown_path}
use Rattle.ledger.specs.Call.{held_on, net_on}
use Rattle.ledger.specs.Causes.{held_causes, net_causes, query_causes, query_refusal}
use Rattle.ledger.specs.Season.{held}
use Rattle.ledger.proofs.Bounds.{max_together}
use Rattle.ledger.proofs.Conserved.{carried_sum, awarded_sum}
use Rattle.ledger.proofs.Unmet.{unmet, is_within}
use Rattle.records.specs.Opening.{opening_in}
use Rattle.slots.specs.Cells.{read_at}
use Rattle.slots.specs.Layout.{figure_slots, ledger_in, carried_slot, awarded_slot}
use Rattle.slots.specs.Steps.{Reachable}
use Rattle.slots.proofs.Reachable.{counts, fits}
use Rattle.slots.proofs.Figures.{by_number, figure_fits}
use Rattle.awards.specs.Holdings.{HasHolding}

month_within : (month : ℕ) → month_out_of_range month ≡ false → (1 ≤ month) × (month ≤ 3)
unfolding month_out_of_range within is_month
month_within month e = is_within 1 3 month e

pub held_names : (O : Opening) (h p month : ℕ) → ((L : Ledger) → 0 ≡ query_refusal O L (held_on h p month)) → (h < O.holders) × (p < O.paths) × (1 ≤ month) × (month ≤ 3)
unfolding query_refusal query_causes held_causes unknown_holder unknown_path
held_names O h p month none =
    let first = unmet 1 _ _ (sym (none empty_ledger)) in
    let in_book = or_unmet _ _ first.0 in
    let range = month_within month (unmet 2 _ _ first.1).0 in
    (leb-false _ _ in_book.0, leb-false _ _ in_book.1, range.0, range.1)

pub net_names : (O : Opening) (p month : ℕ) → ((L : Ledger) → 0 ≡ query_refusal O L (net_on p month)) → (p < O.paths) × (1 ≤ month) × (month ≤ 3)
unfolding query_refusal query_causes net_causes unknown_path
net_names O p month none =
    let first = unmet 1 _ _ (sym (none empty_ledger)) in
    let range = month_within month (unmet 2 _ _ first.1).0 in
    (leb-false _ _ first.0, range.0, range.1)

-- what stands in the slots of a month is the holding
pub holding_is : (f : List ℕ) (m : List Bool) (x : List Entry) (h p month carried awarded : ℕ) → HasHolding f h p month → carried ≡ read_at figure_slots 0 f h p (carried_slot + (month - 1)) → awarded ≡ read_at figure_slots 0 f h p (awarded_slot + (month - 1)) → carried + awarded ≡ held (ledger_in f m x) h p month
unfolding held ledger_in
holding_is f m x h p month carried awarded k c a =
    ap₂ (λ u v. u + v)
    (c ∙ by_number f carried_slot last_month h p month k.holder k.place 1 k.low (let l = k.high in omega arith))
    (a ∙ by_number f awarded_slot last_month h p month k.holder k.place 1 k.low (let l = k.high in omega arith))

module _ (o : KeptOpening) (f : List ℕ) (m : List Bool) (x : List Entry) (r : Reachable o f m x) (p month : ℕ) (path : p < (opening_in o).paths) (low : 1 ≤ month) (high : month ≤ 3) where
  pub has_holding : (h : ℕ) → h < (opening_in o).holders → HasHolding f h p month
  has_holding h l =
      record {
        holder = le_trans l (counts o f m x r).0;
        place = le_trans path (counts o f m x r).3;
        low = low;
        high = high;
        each = λ slot in_row. figure_fits o f m x r h p slot l path in_row;
      }

  -- all holdings on a path in a month together: one carry a holder, and an award a tier at most
  pub net_fits : sum_to (opening_in o).holders (λ h. held (ledger_in f m x) h p month) ≤ 11 * max_together
  unfolding held carried_sum awarded_sum
  net_fits =
      let carried = (fits o f m x r).carried_fit p month in
      let awarded = (fits o f m x r).awarded_fit p month path in
      le_trans (le_of_eq (sum_add (λ h. (ledger_in f m x).rights.carried h p month) (λ h. (ledger_in f m x).rights.awarded h p month) (opening_in o).holders)) (omega arith)
