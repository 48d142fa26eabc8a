-- From what is kept of an entry for a term back to whether it counts and to its kW. Assumes nothing.
use Prim.Native.Nat.{ℕ, ◌+◌, ◌-◌, ◌≤◌}
use mathlib.Core.Path.{◌≡◌, refl, ap}
use mathlib.Core.Bool.{Bool, true, false, not}
use native.Mathlib.Omega.{arith}
use lib.Dec.{eqb}
use borrow.Author.Tests.{ne_eqb}
use Rattle.source_evidence.specs.declared.evidence.Entry.{Entry}
use Rattle.tariff.specs.Sum.{when_true}
use Rattle.source_evidence.specs.Evidence.{evidence_kw, counts_for, entry_kw}
use Rattle.tariff.proofs.Sums.{when_le}
use Rattle.slots.specs.Coverage.{coverage, covered_kw, is_covered}

by_test : (counts : Bool) (kw : ℕ) → (when_true counts (when_true counts kw + 1) - 1 ≡ when_true counts kw) × (not (eqb (when_true counts (when_true counts kw + 1)) 0) ≡ counts)
unfolding when_true
by_test true kw = (omega arith, ap not (ne_eqb (kw + 1) 0 (λ q. omega (arith, q))))
by_test false kw = (refl, refl)

-- the entry's kW for the term
pub kw_back : (term : ℕ) (e : Entry) → covered_kw (coverage term e) ≡ entry_kw term e
unfolding coverage entry_kw covered_kw
kw_back term e = (by_test (counts_for term e) (evidence_kw e.evidence)).0

-- whether it counts
pub counts_back : (term : ℕ) (e : Entry) → is_covered (coverage term e) ≡ counts_for term e
unfolding coverage entry_kw is_covered
counts_back term e = (by_test (counts_for term e) (evidence_kw e.evidence)).1

pub coverage_le : (term : ℕ) (e : Entry) → coverage term e ≤ entry_kw term e + 1
unfolding coverage
coverage_le term e = when_le (counts_for term e) (entry_kw term e + 1)
