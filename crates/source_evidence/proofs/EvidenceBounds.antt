-- Evidence whose numbers are in range gives no more than the most kW. Assumes nothing.
use Prim.Native.Nat.{ℕ, ◌≤◌, zero-le}
use mathlib.Core.Bool.{Bool, true, false, cond}
use native.Mathlib.Nat.{le_trans, div-le_of_le-mul, mul-le-mul, mul_comm, le_of_eq}
use lib.Dec.{eqb}
use Rattle.source_evidence.specs.declared.evidence.Evidence.{Evidence}
use Rattle.source_evidence.specs.declared.evidence.Evidence.TheVariants.{Empty, Ownership, Contract}
use Rattle.source_evidence.specs.declared.evidence.Entry.{Entry}
use Rattle.source_evidence.specs.Evidence.{evidence_of, highest_right, evidence_kw, counts_for, entry_kw}
use Rattle.tariff.proofs.Sums.{when_le}

-- the numbers of an evidence are in range, for a highest kW
abbrev pub InRange : ℕ → Evidence → Type 0
InRange most Empty = Unit {0}
InRange most (Ownership capacity right) = (capacity ≤ most) × (right ≤ 10000)
InRange most (Contract right) = right ≤ most

pub filed_in_range : (most kind capacity right : ℕ) → capacity ≤ most → right ≤ highest_right kind capacity → InRange most (evidence_of kind capacity right)
unfolding evidence_of highest_right
filed_in_range most kind capacity right high fits = go (eqb kind 1) fits
  where
    go : (own : Bool) → right ≤ cond own 10000 capacity → InRange most (cond own (Ownership capacity right) (Contract right))
    go true l = (high, l)
    go false l = le_trans l high

pub evidence_le : (most : ℕ) (e : Evidence) → InRange most e → evidence_kw e ≤ most
unfolding evidence_kw
evidence_le most Empty r = zero-le
evidence_le most (Ownership capacity right) r = div-le_of_le-mul 10000 (le_trans (mul-le-mul r.0 r.1) (le_of_eq (mul_comm most 10000)))
evidence_le most (Contract right) r = r

pub entry_le : (most term : ℕ) (e : Entry) → InRange most e.evidence → entry_kw term e ≤ most
unfolding entry_kw
entry_le most term e r = le_trans (when_le (counts_for term e) (evidence_kw e.evidence)) (evidence_le most e.evidence r)
