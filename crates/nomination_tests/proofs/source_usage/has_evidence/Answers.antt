-- `nomination_tests::source_usage::has_evidence` meets its contract. Assumes nothing.
use native.Mathlib.Omega.{arith}
use mathlib.Core.Path.{refl}
use Rattle.tariff.proofs.Tests.{or_after_true, or_after_false}
use Rattle.tier_limits.proofs.EvidenceSlots.{term_fits, source_cell}
use Rattle.nomination_tests.proofs.VerifiedLaws.{evidence_is}
use Rattle.nomination_tests.proofs.source_usage.has_evidence.Goals as goal

pub overflow_add-ownership : goal.overflow_add-ownership
overflow_add-ownership c = let fits = term_fits _ _ _ _ c.requires.figures.reachable _ _ c.current_tier.ensures c.term_of-ownership.ensures in omega arith

pub overflow_add-contract : goal.overflow_add-contract
overflow_add-contract c = let fits = term_fits _ _ _ _ c.requires.figures.reachable _ _ c.current_tier.ensures c.term_of-ownership.ensures in omega arith

pub is_covered-requires : goal.is_covered-requires
is_covered-requires c =
    let fits = term_fits _ _ _ _ c.requires.figures.reachable _ _ c.current_tier.ensures c.term_of-ownership.ensures in
    source_cell _ _ _ _ c.requires.figures.reachable _ _ c.requires.holder c.requires.place _ (omega arith)

pub is_covered-requires-else-is_covered : goal.is_covered-requires-else-is_covered
is_covered-requires-else-is_covered c =
    let fits = term_fits _ _ _ _ c.requires.figures.reachable _ _ c.current_tier.ensures c.term_of-ownership.ensures in
    source_cell _ _ _ _ c.requires.figures.reachable _ _ c.requires.holder c.requires.place _ (omega arith)

pub returns-then-is_covered : goal.returns-then-is_covered
returns-then-is_covered c m x r = let k = c.requires in or_after_true _ c.if-is_covered.true (evidence_is _ _ m x r _ _ k.holder k.place _ _ c.current_tier.ensures c.term_of-ownership.ensures _ _ c.is_covered.ensures refl)

pub returns-else-is_covered : goal.returns-else-is_covered
returns-else-is_covered c m x r = let k = c.requires in or_after_false c.if-is_covered.false (evidence_is _ _ m x r _ _ k.holder k.place _ _ c.current_tier.ensures c.term_of-ownership.ensures _ _ c.is_covered.ensures c.is_covered-else-is_covered.ensures)
