-- What filed evidence gives and when it counts (01, Posting, Verify; 02, 1/14).
use Rattle.std.specs.Prelude.{ℕ, ◌*◌, ◌/◌, Bool, false, cond, ◌&&◌, leb, eqb}
use Rattle.source_evidence.specs.declared.evidence.Evidence.{Evidence}
use Rattle.source_evidence.specs.declared.evidence.Evidence.TheVariants.{Empty, Ownership, Contract}
use Rattle.source_evidence.specs.declared.evidence.Entry.{Entry}
use Rattle.tariff.specs.Sum.{when_true}
use Rattle.tariff.specs.Sizes.{last_month, ownership, full_ownership, ten_year_mark}

-- an entry that nothing was filed in
unfoldable pub empty_entry : Entry
empty_entry = record { evidence = Empty; first = 0; last = 0; ten_year = false }

-- kind 1 files an ownership, kind 2 a contract
unfoldable pub evidence_of : ℕ → ℕ → ℕ → Evidence
evidence_of kind capacity right = cond (eqb kind ownership) (Ownership capacity right) (Contract right)

-- the entry that verify files; the mark 1 says ten years (02, 1/14)
unfoldable pub entry_of : ℕ → ℕ → ℕ → ℕ → ℕ → ℕ → Entry
entry_of kind capacity right first last mark =
    record { evidence = evidence_of kind capacity right; first = first; last = last; ten_year = eqb mark ten_year_mark }

-- the highest right of a kind: 10,000 ten-thousandths of a plant, or the capacity under contract
unfoldable pub highest_right : ℕ → ℕ → ℕ
highest_right kind capacity = cond (eqb kind ownership) full_ownership capacity

-- the kW that evidence gives: the owned part of the capacity, rounded down, or the contract's
unfoldable pub evidence_kw : Evidence → ℕ
evidence_kw Empty = 0
evidence_kw (Ownership capacity right) = capacity * right / full_ownership
evidence_kw (Contract right) = right

-- an entry counts for a month from its first to its last, and for the season if it runs from month 1 to 3
unfoldable pub counts_for : ℕ → Entry → Bool
counts_for term e = cond (eqb term 0) (eqb e.first 1 && eqb e.last last_month) (leb e.first term && leb term e.last)

-- the kW of an entry for a term
unfoldable pub entry_kw : ℕ → Entry → ℕ
entry_kw term e = when_true (counts_for term e) (evidence_kw e.evidence)

-- ten-year evidence for the season: marked so, and running from month 1 to 3, whatever it comes to (02, 1/14)
unfoldable pub is_ten_year : Entry → Bool
is_ten_year e = e.ten_year && counts_for 0 e

-- the kW of an entry as ten-year evidence
unfoldable pub ten_year_kw_of : Entry → ℕ
ten_year_kw_of e = when_true (is_ten_year e) (entry_kw 0 e)
