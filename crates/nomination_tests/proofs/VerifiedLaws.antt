-- What a holder has verified of a source for the open tier's term. Assumes nothing.
use Prim.Native.Nat.{ℕ, ◌+◌, ◌*◌, ◌≤◌, ◌<◌}
use mathlib.Core.Path.{◌≡◌, ap, ◌∙◌}
use mathlib.Core.Bool.{Bool, ◌||◌}
use mathlib.Core.List.{List}
use native.Mathlib.Omega.{arith}
use Rattle.records.specs.declared.setup.KeptOpening.{KeptOpening}
use Rattle.tariff.specs.Sizes.{terms, ownership, contract}
use Rattle.source_evidence.specs.declared.evidence.Entry.{Entry}
use Rattle.tariff.specs.Ranges.{max_kw}
use Rattle.tariff.specs.Terms.{term_of}
use Rattle.ledger.specs.Ledger.{Ledger}
use Rattle.ledger.specs.Verification.{has_evidence, verified_kw}
use Rattle.records.specs.Opening.{opening_in}
use Rattle.slots.specs.Cells.{read_at}
use Rattle.slots.specs.Coverage.{covered_kw, is_covered}
use Rattle.slots.specs.Layout.{ownership_slot, figure_slots, current_tier_in, ledger_in}
use Rattle.slots.specs.Steps.{Reachable}
use Rattle.slots.proofs.Figures.{evidence_fits_lem}
use Rattle.tier_limits.proofs.EvidenceSlots.{term_fits, owned_kw, contracted_kw, owned_counts, contracted_counts}

-- what the two slots of the open tier's term say is the verified kW, which fits, ..
module _ (o : KeptOpening) (f : List ℕ) (m : List Bool) (x : List Entry) (r : Reachable o f m x) (h s : ℕ) (l : h < (opening_in o).holders) (place : s < 16) (tier term : ℕ) (now : tier ≡ current_tier_in f) (of_tier : term ≡ term_of tier) where
  abbrev L : Ledger
  L = ledger_in f m x

  k : term < terms
  k = term_fits o f m x r tier term now of_tier

  same_term : term ≡ term_of L.tiers.current_tier
  unfolding ledger_in
  same_term = of_tier ∙ ap term_of now

  pub verified_is : (a b : ℕ) → a ≡ covered_kw (read_at figure_slots 0 f h s (ownership_slot + term)) → b ≡ covered_kw (read_at figure_slots 0 f h s (ownership_slot + term + terms)) → a + b ≡ verified_kw L h s (term_of L.tiers.current_tier)
  unfolding verified_kw
  verified_is a b owned contracted = (λ i. (owned ∙ owned_kw o f m x r h s l place term k) i + (contracted ∙ contracted_kw o f m x r h s l place term k) i) ∙ ap (verified_kw L h s) same_term

  pub verified_fits : (a b : ℕ) → a ≡ covered_kw (read_at figure_slots 0 f h s (ownership_slot + term)) → b ≡ covered_kw (read_at figure_slots 0 f h s (ownership_slot + term + terms)) → a + b ≤ 2 * max_kw
  verified_fits a b owned contracted =
      let first = evidence_fits_lem o f m x r h s ownership term in
      let second = evidence_fits_lem o f m x r h s contract term in
      let of_first = owned ∙ owned_kw o f m x r h s l place term k in
      let of_second = contracted ∙ contracted_kw o f m x r h s l place term k in
      omega arith

  -- .. and whether there is evidence for it
  pub evidence_is : (a b : Bool) → a ≡ is_covered (read_at figure_slots 0 f h s (ownership_slot + term)) → b ≡ is_covered (read_at figure_slots 0 f h s (ownership_slot + term + terms)) → (a || b) ≡ has_evidence L h s (term_of L.tiers.current_tier)
  unfolding has_evidence
  evidence_is a b owned contracted = (λ i. (owned ∙ owned_counts o f m x r h s l place term k) i || (contracted ∙ contracted_counts o f m x r h s l place term k) i) ∙ ap (has_evidence L h s) same_term
