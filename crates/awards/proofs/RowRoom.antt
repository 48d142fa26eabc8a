-- Room for kW in the slots of a holder at a path: what a book's figures have, and what an addition by month leaves of it. Assumes nothing.
use Prim.Native.Nat.{ℕ, ◌+◌, ◌≤◌, ◌<◌}
use mathlib.Core.Path.{◌≡◌, refl}
use mathlib.Core.Bool.{Bool}
use mathlib.Core.List.{List}
use native.Mathlib.Nat.{le_trans}
use native.Mathlib.Omega.{arith}
use Rattle.records.specs.declared.setup.KeptOpening.{KeptOpening}
use Rattle.source_evidence.specs.declared.evidence.Entry.{Entry}
use Rattle.tariff.specs.Ranges.{max_kw}
use Rattle.records.specs.Opening.{opening_in}
use Rattle.slots.specs.Layout.{figure_slots}
use Rattle.slots.specs.Months.{added_in_term, HasRoom}
use Rattle.slots.specs.Steps.{Reachable}
use Rattle.slots.proofs.RoomLaws.{room_next}
use Rattle.slots.proofs.Reachable.{counts}
use Rattle.slots.proofs.Figures.{figure_fits, room_for_more}

-- every slot of a holder at a path has room for the kW of a call
pub row_room : (o : KeptOpening) (f : List ℕ) (m : List Bool) (x : List Entry) (h p kw first past : ℕ) → Reachable o f m x → h < (opening_in o).holders → p < (opening_in o).paths → kw ≤ max_kw → past ≤ figure_slots → HasRoom f h p first past kw
row_room o f m x h p kw first past r holder path high in_row =
    record {
      holder = le_trans holder (counts o f m x r).0;
      place = le_trans path (counts o f m x r).3;
      in_row = in_row;
      room = λ slot above below. room_for_more _ kw (figure_fits o f m x r h p slot holder path (omega arith)) high;
    }

-- an addition in the months of a term leaves it to the slots after them
pub room_after_term : (f next : List ℕ) (h p from past term kw v later : ℕ) → HasRoom f h p from past kw → from + 2 < past → from + 2 < later → next ≡ added_in_term f h p from term v → HasRoom next h p later past kw
unfolding added_in_term
room_after_term f next h p from past term kw v later r inside after e =
    room_next _ next h p (from + 2) past kw _ later
    (room_next _ _ h p (from + 1) past kw _ (from + 2)
    (room_next f _ h p from past kw _ (from + 1) r (omega arith) (omega arith) refl) (omega arith) (omega arith) refl) inside after e
