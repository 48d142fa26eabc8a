-- `tier_limits::ten_year::ten_year_at` meets its contract. Assumes nothing.
use native.Mathlib.Omega.{arith}
use Rattle.tier_limits.proofs.EvidenceSlots.{source_cell}
use Rattle.tier_limits.proofs.TenYearLaws.{at_is, at_fits}
use Rattle.tier_limits.proofs.ten_year.ten_year_at.Goals as goal

pub read-owned-requires : goal.read-owned-requires
read-owned-requires c = let k = c.requires in source_cell _ _ _ _ k.figures.reachable _ _ k.holder k.place _ (omega arith)

pub read-contracted-requires : goal.read-contracted-requires
read-contracted-requires c = let k = c.requires in source_cell _ _ _ _ k.figures.reachable _ _ k.holder k.place _ (omega arith)

pub covered_kw-requires : goal.covered_kw-requires
covered_kw-requires c = let k = c.requires in source_cell _ _ _ _ k.figures.reachable _ _ k.holder k.place _ (omega arith)

pub covered_kw-requires-2 : goal.covered_kw-requires-2
covered_kw-requires-2 c = let k = c.requires in source_cell _ _ _ _ k.figures.reachable _ _ k.holder k.place _ (omega arith)

pub overflow_add-result : goal.overflow_add-result
overflow_add-result c =
    let k = c.requires in
    let r = k.figures.reachable in
    let is = at_is _ _ _ _ r _ _ k.holder k.place _ _ _ _ _ _ c.read-owned.ensures c.read-contracted.ensures c.covered_kw.ensures c.covered_kw-2.ensures c.when_true-ownership.ensures c.when_true-contract.ensures in
    let fits = at_fits _ _ _ _ r _ _ k.holder k.place in
    omega arith

pub returns : goal.returns
returns c m x r =
    let k = c.requires in
    at_is _ _ m x r _ _ k.holder k.place _ _ _ _ _ _ c.read-owned.ensures c.read-contracted.ensures c.covered_kw.ensures c.covered_kw-2.ensures c.when_true-ownership.ensures c.when_true-contract.ensures
