-- `nomination_tests::source_usage::verified_kw` meets its contract. Assumes nothing.
use native.Mathlib.Omega.{arith}
use Rattle.tier_limits.proofs.EvidenceSlots.{term_fits, source_cell}
use Rattle.nomination_tests.proofs.VerifiedLaws.{verified_fits, verified_is}
use Rattle.nomination_tests.proofs.source_usage.verified_kw.Goals as goal

pub overflow_add-ownership : goal.overflow_add-ownership
overflow_add-ownership c = let fits = term_fits _ _ _ _ c.requires.figures.reachable _ _ c.current_tier.ensures c.term_of-ownership.ensures in omega arith

pub overflow_add-contract : goal.overflow_add-contract
overflow_add-contract c = let fits = term_fits _ _ _ _ c.requires.figures.reachable _ _ c.current_tier.ensures c.term_of-ownership.ensures in omega arith

pub covered_kw-requires : goal.covered_kw-requires
covered_kw-requires c =
    let fits = term_fits _ _ _ _ c.requires.figures.reachable _ _ c.current_tier.ensures c.term_of-ownership.ensures in
    source_cell _ _ _ _ c.requires.figures.reachable _ _ c.requires.holder c.requires.place _ (omega arith)

pub covered_kw-requires-2 : goal.covered_kw-requires-2
covered_kw-requires-2 c =
    let fits = term_fits _ _ _ _ c.requires.figures.reachable _ _ c.current_tier.ensures c.term_of-ownership.ensures in
    source_cell _ _ _ _ c.requires.figures.reachable _ _ c.requires.holder c.requires.place _ (omega arith)

pub overflow_add-result : goal.overflow_add-result
overflow_add-result c =
    let k = c.requires in
    let fits = verified_fits _ _ _ _ k.figures.reachable _ _ k.holder k.place _ _ c.current_tier.ensures c.term_of-ownership.ensures _ _ c.covered_kw.ensures c.covered_kw-2.ensures in
    omega arith

pub returns : goal.returns
returns c m x r = let k = c.requires in verified_is _ _ m x r _ _ k.holder k.place _ _ c.current_tier.ensures c.term_of-ownership.ensures _ _ c.covered_kw.ensures c.covered_kw-2.ensures
