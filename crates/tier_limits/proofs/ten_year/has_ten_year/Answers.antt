-- `tier_limits::ten_year::has_ten_year` meets its contract. Assumes nothing.
use mathlib.Core.Path.{refl}
use native.Mathlib.Omega.{arith}
use borrow.Author.Tests.{eq-eqb, ne_eqb}
use Rattle.tariff.proofs.Tests.{or_after_true, or_after_false}
use Rattle.tier_limits.proofs.EvidenceSlots.{source_cell}
use Rattle.tier_limits.proofs.TenYearLaws.{has_is}
use Rattle.tier_limits.proofs.ten_year.has_ten_year.Goals as goal

pub read-requires : goal.read-requires
read-requires c = let k = c.requires in source_cell _ _ _ _ k.figures.reachable _ _ k.holder k.place _ (omega arith)

pub read-requires-else-read-eq1 : goal.read-requires-else-read-eq1
read-requires-else-read-eq1 c = let k = c.requires in source_cell _ _ _ _ k.figures.reachable _ _ k.holder k.place _ (omega arith)

pub returns-then-read-eq1 : goal.returns-then-read-eq1
returns-then-read-eq1 c m x r = let k = c.requires in or_after_true _ (eq-eqb _ 1 c.if-read-eq1.true) (has_is _ _ m x r _ _ k.holder k.place _ _ c.read.ensures refl)

pub returns-else-read-eq1 : goal.returns-else-read-eq1
returns-else-read-eq1 c m x r = let k = c.requires in or_after_false (ne_eqb _ 1 c.if-read-eq1.false) (has_is _ _ m x r _ _ k.holder k.place _ _ c.read.ensures c.read-else-read-eq1.ensures)
