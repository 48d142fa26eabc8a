-- `nominations::nominate::exceeds_verified` meets its contract: it is looked at where the holder has to verify its sources. Assumes nothing.
use native.Mathlib.Omega.{arith}
use Rattle.nomination_tests.proofs.NominateCauses.{source_inputs}
use Rattle.nomination_tests.proofs.UsageLaws.{usage_fits}
use Rattle.nominations.proofs.nominate.exceeds_verified.Goals as goal

pub verified_kw-verified-requires : goal.verified_kw-verified-requires
verified_kw-verified-requires c = source_inputs c.n.invariant _ c.path_source-source.ensures

pub overflow_add-wanted : goal.overflow_add-wanted
overflow_add-wanted c =
    let k = c.n.invariant in
    let r = k.figures.reachable in
    let is = c.source_usage.ensures _ _ r in
    let fits = usage_fits _ _ _ _ r _ c.path_source-source.result k.holder in
    let high = k.high in
    omega arith
