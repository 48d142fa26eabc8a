-- `slots::cells::clear` meets its contract: the loop has cleared the slot in the rows that it has passed. Assumes nothing.
use Prim.Native.Nat.{◌/◌, ◌%◌, ◌≤◌}
use mathlib.Core.Path.{◌≡◌}
use lib.ListN.{length}
use Rattle.slots.specs.Cells.{rows, cleared_to}
use Rattle.slots.specs.Layout.{figure_slots, figure_count}
use Rattle.slots.proofs.cells.clear.Given as goal

abbrev pub invariant-loop-at : goal.invariant-loop-at
invariant-loop-at l = (l.at % figure_slots ≡ l.slot) × (l.at / figure_slots ≤ rows) × (l.f ≡ cleared_to figure_slots l.slot l.initial.f (l.at / figure_slots)) × (length l.f ≡ figure_count)
