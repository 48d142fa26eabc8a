-- Room for several additions in a row. Assumes nothing.
use Prim.Native.Nat.{ℕ, ◌+◌, ◌^◌, ◌≤◌, ◌<◌}
use mathlib.Core.Path.{◌≡◌, ap, ◌∙◌}
use mathlib.Core.List.{List}
use native.Mathlib.Omega.{arith}
use Rattle.slots.specs.Cells.{HasCell, read_at, added_at}
use Rattle.slots.specs.Layout.{figure_slots}
use Rattle.slots.specs.Months.{HasRoom}
use Rattle.slots.proofs.CellLaws.{read_added}

-- what one addition needs
pub room_now : (f : List ℕ) (h p slot past kw v : ℕ) → HasRoom f h p slot past kw → slot < past → v ≤ kw → HasCell figure_slots h p slot × (read_at figure_slots 0 f h p slot + v < 2 ^ 64)
room_now f h p slot past kw v r l le =
    (record { holder = r.holder; place = r.place; in_row = let e = r.in_row in omega arith }, let fits = r.room slot (let e : slot ≤ slot = omega arith in e) l in omega arith)

-- and what it leaves for the next
pub room_next : (f next : List ℕ) (h p slot past kw v later : ℕ) → HasRoom f h p slot past kw → slot < past → slot < later → next ≡ added_at figure_slots f h p slot v → HasRoom next h p later past kw
room_next f next h p slot past kw v later r l after e =
    record {
      holder = r.holder;
      place = r.place;
      in_row = r.in_row;
      room = λ s a b. let same = ap (λ z. read_at figure_slots 0 z h p s) e ∙ read_added figure_slots f h p slot v s (cell slot l) (cell s b) (λ q. omega (arith, q)) in let fits = r.room s (let below : slot ≤ s = omega arith in below) b in omega arith;
    }
  where
    cell : (s : ℕ) → s < past → HasCell figure_slots h p s
    cell s b = record { holder = r.holder; place = r.place; in_row = let w = r.in_row in omega arith }
