-- `netting::shares::entry_after` meets its contract: what a holder gives is no more than it has, and what it has then fits. Assumes nothing.
use Rattle.std.proofs.Common.{arith, ◌∙◌}
use Rattle.netting.specs.Netting.{holder_at}
use Rattle.netting.proofs.ShareCells.{given_fits, gained_fits, transferred_fits, transferred_value, entry_past, entry_moved}
use Rattle.netting.proofs.shares.entry_after.Goals as goal

pub returns-then-n-i : goal.returns-then-n-i
returns-then-n-i c = entry_past _ _ _ _ c.if-n-i.true

pub given_by-requires : goal.given_by-requires
given_by-requires c = let a = c.args in let pre = c.requires.0 in (c.requires.1, pre.few, given_fits a.n a.column.now a.parts.now pre a.i c.if-n-i.false)

pub overflow_sub-result : goal.overflow_sub-result
unfolding holder_at
overflow_sub-result c = let a = c.args in omega (arith, c.requires.0.given a.i c.if-n-i.false, c.given_by.ensures)

pub gained_by-requires : goal.gained_by-requires
gained_by-requires c = let a = c.args in let pre = c.requires.0 in (c.requires.1, pre.few, gained_fits a.n a.column.now a.parts.now pre a.i c.if-n-i.false)

pub overflow_add-result : goal.overflow_add-result
overflow_add-result c =
    let a = c.args in
    let value = transferred_value a.n a.column.now a.parts.now a.i _ _ c.given_by.ensures c.gained_by.ensures in
    omega (arith, transferred_fits a.n a.column.now a.parts.now c.requires.0 a.i c.if-n-i.false)

pub returns : goal.returns
returns c = let a = c.args in transferred_value a.n a.column.now a.parts.now a.i _ _ c.given_by.ensures c.gained_by.ensures ∙ entry_moved a.n a.column.now a.parts.now a.i c.if-n-i.false
