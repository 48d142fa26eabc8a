-- `slots::months::add_in_term` meets its contract: each month's slot has room, and the three additions are the term's. Assumes nothing.
use Prim.Native.Nat.{suc, ◌+◌, ◌-◌}
use mathlib.Core.Path.{◌≡◌, refl, ap, ◌∙◌}
use native.Mathlib.Nat.{add-zero, le_trans, le_of_eq}
use native.Mathlib.Omega.{arith}
use Rattle.tariff.proofs.Sums.{when_le}
use Rattle.slots.proofs.RoomLaws.{room_now, room_next}
use Rattle.slots.proofs.MonthLaws.{added_before, added_next, months_added}
use Rattle.slots.proofs.months.add_in_term.Goals as goal

pub loop-month-init : goal.loop-month-init
unfolding added_before
loop-month-init c = (0, refl, refl, rw (add-zero c.args.from) c.requires)

pub month_slot-requires : goal.month_slot-requires
month_slot-requires c = let i = c.loop-month.invariant in let m = i.1 in let fits = i.3.in_row in (omega arith, omega arith)

pub add-requires : goal.add-requires
add-requires c =
    let i = c.loop-month.invariant in
    let here : c.args.from + i.0 ≡ c.month_slot.result = (let m = i.1 in let s = c.month_slot.ensures in omega arith) in
    room_now _ _ _ _ _ _ _ (rw here at i.3) (let m = i.1 in let s = c.month_slot.ensures in omega arith) (le_trans (le_of_eq c.month_kw-entering.ensures) (when_le _ _))

pub loop-month-preserved : goal.loop-month-preserved
loop-month-preserved c =
    let i = c.loop-month.invariant in
    let past : i.0 ≡ c.loop-month.month - 1 = (let m = i.1 in omega arith) in
    let here : c.month_slot.result ≡ c.args.from + (c.loop-month.month - 1) = (let s = c.month_slot.ensures in omega arith) in
    let added = rw here at c.add.ensures in
    let entered = added_next _ _ _ _ _ _ _ _ _ _ _ past i.1 i.2 refl c.month_kw-entering.ensures added in
    (suc i.0, (let m = i.1 in omega arith), entered, room_next _ _ _ _ _ _ _ _ _ (rw past at i.3) (let m = i.1 in omega arith) (let m = i.1 in omega arith) added)

pub returns : goal.returns
returns c = let i = c.loop-month.invariant in i.2 ∙ ap (added_before _ _ _ _ _ _) (let e : i.0 ≡ 3 = (let m = i.1 in omega arith) in e) ∙ months_added _ _ _ _ _ _
