-- A holder's evidence for a source, read in its slots: the kW that it comes to for a term, and whether there is any. Assumes nothing.
use Prim.Native.Nat.{ℕ, ◌+◌, ◌<◌}
use mathlib.Core.Path.{◌≡◌, ap, ◌∙◌}
use mathlib.Core.Bool.{Bool}
use mathlib.Core.List.{List}
use native.Mathlib.Nat.{le_trans}
use native.Mathlib.Omega.{arith}
use Rattle.records.specs.declared.setup.KeptOpening.{KeptOpening}
use Rattle.tariff.specs.Sizes.{terms, ownership, contract}
use Rattle.source_evidence.specs.declared.evidence.Entry.{Entry}
use Rattle.source_evidence.specs.Evidence.{counts_for, entry_kw}
use Rattle.tariff.specs.Terms.{term_of}
use Rattle.ledger.specs.Ledger.{Ledger}
use Rattle.records.specs.Opening.{opening_in}
use Rattle.slots.specs.Cells.{HasCell, read_at}
use Rattle.slots.specs.Coverage.{coverage, covered_kw, is_covered}
use Rattle.slots.specs.Layout.{ownership_slot, contract_slot, figure_slots, current_tier_in, ledger_in}
use Rattle.slots.specs.Steps.{Reachable}
use Rattle.slots.proofs.Reachable.{counts}
use Rattle.slots.proofs.CoverageLaws.{kw_back, counts_back}
use Rattle.slots.proofs.Figures.{ownership_read, contract_read}
use Rattle.tier_limits.proofs.LimitLaws.{open_last_lem, term_below}

module _ (o : KeptOpening) (f : List ℕ) (m : List Bool) (x : List Entry) (r : Reachable o f m x) where
  abbrev L : Ledger
  L = ledger_in f m x

  -- the open tier's term
  pub term_fits : (tier term : ℕ) → tier ≡ current_tier_in f → term ≡ term_of tier → term < terms
  term_fits tier term now of_tier = let fits = term_below tier (open_last_lem o f m x r tier now) in omega arith

  module _ (h s : ℕ) (l : h < (opening_in o).holders) (place : s < 16) where
    holder : h < 8
    holder = le_trans l (counts o f m x r).0

    pub source_cell : (slot : ℕ) → slot < figure_slots → HasCell figure_slots h s slot
    source_cell slot k = record { holder = holder; place = place; in_row = k }

    -- the four slots of ownership and after them those of the contract, by term
    owned-is : (term : ℕ) → term < terms → read_at figure_slots 0 f h s (ownership_slot + term) ≡ coverage term (L.evidence.entry h s ownership)
    owned-is term k = ownership_read o f m x r h s term holder place k

    contracted-is : (term : ℕ) → term < terms → read_at figure_slots 0 f h s (ownership_slot + term + terms) ≡ coverage term (L.evidence.entry h s contract)
    contracted-is term k = ap (read_at figure_slots 0 f h s) (let e : ownership_slot + term + terms ≡ contract_slot + term = omega arith in e) ∙ contract_read o f m x r h s term holder place k

    -- the kW read in them ..
    pub owned_kw : (term : ℕ) → term < terms → covered_kw (read_at figure_slots 0 f h s (ownership_slot + term)) ≡ entry_kw term (L.evidence.entry h s ownership)
    owned_kw term k = ap covered_kw (owned-is term k) ∙ kw_back term (L.evidence.entry h s ownership)

    pub contracted_kw : (term : ℕ) → term < terms → covered_kw (read_at figure_slots 0 f h s (ownership_slot + term + terms)) ≡ entry_kw term (L.evidence.entry h s contract)
    contracted_kw term k = ap covered_kw (contracted-is term k) ∙ kw_back term (L.evidence.entry h s contract)

    -- .. and whether there is evidence
    pub owned_counts : (term : ℕ) → term < terms → is_covered (read_at figure_slots 0 f h s (ownership_slot + term)) ≡ counts_for term (L.evidence.entry h s ownership)
    owned_counts term k = ap is_covered (owned-is term k) ∙ counts_back term (L.evidence.entry h s ownership)

    pub contracted_counts : (term : ℕ) → term < terms → is_covered (read_at figure_slots 0 f h s (ownership_slot + term + terms)) ≡ counts_for term (L.evidence.entry h s contract)
    contracted_counts term k = ap is_covered (contracted-is term k) ∙ counts_back term (L.evidence.entry h s contract)
