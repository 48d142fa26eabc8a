-- Every entry of evidence in a ledger that calls lead to has its numbers in range. Assumes nothing.
use Prim.Native.Nat.{ℕ}
use mathlib.Core.Path.{◌≡◌}
use mathlib.Core.Bool.{Bool, true, false, cond}
use mathlib.Core.List.{List}
use Rattle.source_evidence.specs.declared.evidence.Entry.{Entry}
use Rattle.source_evidence.specs.Evidence.{empty_entry, entry_of}
use Rattle.source_evidence.proofs.EvidenceBounds.{InRange, filed_in_range}
use Rattle.ledger.specs.Opening.{Opening}
use Rattle.ledger.specs.Ledger.{Ledger, EvidenceRecord, empty_ledger, with_loads, with_rights, with_priors, with_evidence, with_tiers}
use Rattle.ledger.specs.Call.{Call, load, carry, prior, verify, migrate, open_tier, nominate, award, close_tier}
use Rattle.ledger.specs.Migration.{migrated}
use Rattle.tariff.specs.Ranges.{max_kw}
use Rattle.ledger.specs.Effects.{same3, after_verify, effect}
use Rattle.ledger.specs.Season.{accepted, after}
use Rattle.ledger.proofs.Steps.{step_keeps, after_keeps}
use Rattle.ledger.proofs.PostingFacts.{verify_facts}

abbrev pub EvidenceInRange : EvidenceRecord → Type 0
EvidenceInRange P = (h s kind : ℕ) → InRange max_kw (P.entry h s kind).evidence

evidence_effect : (o : Opening) (L : Ledger) (c : Call) → EvidenceInRange L.evidence → accepted o L c ≡ true → EvidenceInRange (effect o L c).evidence
unfolding effect with_loads with_rights with_priors with_evidence with_tiers migrated after_verify entry_of
evidence_effect o L (load h s term contract n blocks) k e = k
evidence_effect o L (carry h p kw) k e = k
evidence_effect o L (prior h p a l) k e = k
evidence_effect o L (verify x q kind capacity right first last mark) k e = λ h s j. go h s j (same3 x q kind h s j)
  where
    filed : Entry
    filed = entry_of kind capacity right first last mark

    go : (h s j : ℕ) (here : Bool) → InRange max_kw (cond here filed (L.evidence.entry h s j)).evidence
    go h s j true = let f = verify_facts o L x q kind capacity right first last mark e in filed_in_range max_kw kind capacity right f.high f.rights.1
    go h s j false = k h s j
evidence_effect o L (migrate term sink lines) k e = k
evidence_effect o L (open_tier tier) k e = k
evidence_effect o L (nominate h p kw) k e = k
evidence_effect o L (award h p kw) k e = k
evidence_effect o L close_tier k e = k

-- it holds after every list of calls
pub evidence_in_range : (o : Opening) (cs : List Call) → EvidenceInRange (after o cs).evidence
unfolding empty_ledger empty_entry
evidence_in_range o cs = after_keeps (λ l. EvidenceInRange l.evidence) o (λ L c k. step_keeps (λ l. EvidenceInRange l.evidence) o L c k (evidence_effect o L c k)) (λ h s kind. tt) cs
