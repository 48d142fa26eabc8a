-- `transfers::transfers::transfer_slot` meets its contract: the column is transferred where it moves, and left where it does not. Assumes nothing.
use mathlib.Core.Path.{sym, ◌∙◌}
use Rattle.transfers.proofs.PathTransfers.{slot_moved, slot_still}
use Rattle.transfers.proofs.transfers.transfer_slot.Goals as goal

pub returns-then-not-slot_moves : goal.returns-then-not-slot_moves
returns-then-not-slot_moves c = slot_still _ _ _ c.args.f.now _ (sym c.slot_moves.ensures ∙ c.if-not-slot_moves.true)

pub returns : goal.returns
returns c = slot_moved _ _ _ _ _ _ (sym c.slot_moves.ensures ∙ c.if-not-slot_moves.false) c.transfer_column.ensures
