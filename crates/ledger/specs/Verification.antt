-- Source verification of an OBAALSE (01, Tiers, Nominate; 02, 2/14; causes 19 and 11).
use Rattle.std.specs.Prelude.{ℕ, ◌+◌, Bool, ◌&&◌, ◌||◌, leb, eqb}
use Rattle.tariff.specs.Sizes.{last_season_tier, ownership, contract}
use Rattle.tariff.specs.Sum.{when_true, sum_to}
use Rattle.tariff.specs.Terms.{term_of}
use Rattle.source_evidence.specs.Evidence.{counts_for, entry_kw}
use Rattle.ledger.specs.Opening.{Opening, has_source}
use Rattle.ledger.specs.Ledger.{Ledger}

-- f summed over the paths from this source
unfoldable pub sum_from_source : Opening → ℕ → (ℕ → ℕ) → ℕ
sum_from_source o s f = sum_to o.paths (λ p. when_true (has_source o s p) (f p))

-- there is evidence for a term: an entry of either kind counts for it, whatever it comes to (02, 2/14)
unfoldable pub has_evidence : Ledger → ℕ → ℕ → ℕ → Bool
has_evidence L h s term = counts_for term (L.evidence.entry h s ownership) || counts_for term (L.evidence.entry h s contract)

-- the verified kW for a term: ownership (kind 1) and contract (kind 2) add
unfoldable pub verified_kw : Ledger → ℕ → ℕ → ℕ → ℕ
verified_kw L h s term = entry_kw term (L.evidence.entry h s ownership) + entry_kw term (L.evidence.entry h s contract)

-- of the tiers before this one, those whose awards use up its evidence: of the same term, and for a month tiers 1 to 3
unfoldable pub uses_same_evidence : ℕ → ℕ → Bool
uses_same_evidence tier n = leb 1 n && (eqb (term_of n) (term_of tier) || leb n last_season_tier)

-- the holder's awards from the source in those tiers
unfoldable pub used_before : Opening → Ledger → ℕ → ℕ → ℕ → ℕ
used_before o L tier h s = sum_to tier (λ n. when_true (uses_same_evidence tier n) (sum_from_source o s (λ p. L.tiers.awards h p n)))

-- what the holder uses of its evidence for the source in this tier: its nominations, and those awards
unfoldable pub source_usage : Opening → Ledger → ℕ → ℕ → ℕ → ℕ
source_usage o L tier h s = sum_from_source o s (λ p. L.tiers.nominated h p tier) + used_before o L tier h s
