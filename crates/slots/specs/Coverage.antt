-- What an entry of evidence gives for a term, kept as one number (02, 2/14).
use Rattle.std.specs.Prelude.{ℕ, ◌+◌, ◌-◌, Bool, not, eqb}
use Rattle.source_evidence.specs.declared.evidence.Entry.{Entry}
use Rattle.tariff.specs.Sum.{when_true}
use Rattle.source_evidence.specs.Evidence.{counts_for, entry_kw}

-- one more than its kW where the entry counts for the term, else 0: evidence that counts and comes to 0 kW is not the same as none
unfoldable pub coverage : ℕ → Entry → ℕ
coverage term e = when_true (counts_for term e) (entry_kw term e + 1)

-- read back from such a number: the kW, and whether there is evidence
unfoldable pub covered_kw : ℕ → ℕ
covered_kw v = v - 1

unfoldable pub is_covered : ℕ → Bool
is_covered v = not (eqb v 0)
