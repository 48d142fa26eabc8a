-- `answers::write_value` meets its contract: three texts written one after the other are one. Assumes nothing.
use Prim.Native.Nat.{ℕ}
use mathlib.Core.Path.{◌≡◌, sym, ap}
use mathlib.Core.List.{List, [], ◌∷◌, ◌++◌, append-nil}
use native.Mathlib.Omega.{arith}
use lib.ListN.{length-append}
use Rattle.ledger.specs.Season.{value}
use Rattle.lines.specs.declared.output.Output.{Output}
use Rattle.lines.specs.Text.{bytes_of, line_feed}
use Rattle.lines.specs.Writing.{HasRoom}
use Rattle.lines.proofs.WritingLaws.{room_for, room_left, wrote_both, wrote_as}
use Rattle.script.specs.Answers.{value_field, value_fields, text_of}
use Rattle.script.proofs.answers.write_value.Goals as goal

abbrev ok_bytes : List ℕ
ok_bytes = 111 ∷ 107 ∷ []

line-is : (v : ℕ) → (ok_bytes ++ value_field v) ++ (line_feed ∷ []) ≡ text_of (value v)
unfolding text_of value_fields bytes_of
line-is v = ap (λ field. ok_bytes ++ field ++ (line_feed ∷ [])) (sym (append-nil (value_field v)))

-- there is room for the word and the field
most-room : (out : Output) (v : ℕ) → HasRoom out (text_of (value v)) → HasRoom out (ok_bytes ++ value_field v)
most-room out v room = let all = room_for out _ _ (line-is v) room in let sum = length-append (ok_bytes ++ value_field v) (line_feed ∷ []) in omega arith

pub write-requires : goal.write-requires
write-requires c = let most = most-room c.args.out.now c.args.v c.requires in omega arith

pub write_field-requires : goal.write_field-requires
write_field-requires c = room_left c.args.out.now c.write.new.self ok_bytes c.write.ensures (value_field c.args.v) (most-room c.args.out.now c.args.v c.requires)

pub write-requires-2 : goal.write-requires-2
write-requires-2 c =
    let out = c.args.out.now in
    let most = wrote_both out c.write.new.self ok_bytes c.write.ensures c.write_field.new.out (value_field c.args.v) c.write_field.ensures in
    room_left out c.write_field.new.out (ok_bytes ++ value_field c.args.v) most (line_feed ∷ []) (room_for out _ _ (line-is c.args.v) c.requires)

pub returns : goal.returns
returns c =
    let out = c.args.out.now in
    let most = wrote_both out c.write.new.self ok_bytes c.write.ensures c.write_field.new.out (value_field c.args.v) c.write_field.ensures in
    wrote_as out c.write-2.new.self _ _ (line-is c.args.v) (wrote_both out c.write_field.new.out (ok_bytes ++ value_field c.args.v) most c.write-2.new.self (line_feed ∷ []) c.write-2.ensures)
