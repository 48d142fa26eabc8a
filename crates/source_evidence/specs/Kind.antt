-- The kinds of evidence, and the numbers that name them (01, Posting, Verify).
use Rattle.std.specs.Prelude.{ℕ, ◌-◌, ◌≡◌, false, cond, eqb, Result, MatchResult}
use Rattle.source_evidence.specs.declared.filing.OutOfRange.{OutOfRange}
use Rattle.source_evidence.specs.declared.kind.EvidenceKind.{EvidenceKind}
use Rattle.source_evidence.specs.declared.kind.EvidenceKind.TheVariants.{Ownership, Contract}
use Rattle.tariff.specs.Sizes.{ownership, contract}
use Rattle.tariff.specs.Ranges.{within}

abbrev pub number_of : EvidenceKind → ℕ
number_of Ownership = ownership
number_of Contract = contract

-- a kind's place among them, from 0
abbrev pub index_of : EvidenceKind → ℕ
index_of kind = number_of kind - ownership

-- the kind of a number in range
unfoldable pub kind_of : ℕ → EvidenceKind
kind_of number = cond (eqb number ownership) Ownership Contract

-- the result is the kind that a number names, or the number names none
abbrev pub IsNamedBy : ℕ → Result EvidenceKind OutOfRange → Type 0
IsNamedBy number r = MatchResult r (λ kind. number_of kind ≡ number) (λ _. within ownership contract number ≡ false)
