-- `answers::write_done` meets its contract, by whether there is a figure. Assumes nothing.
use Prim.Native.Nat.{ℕ}
use mathlib.Core.Path.{◌≡◌, sym, ap}
use mathlib.Core.List.{[], ◌∷◌}
use Rattle.std.specs.Prelude.{Option, None, Some, Ok}
use Rattle.ledger.specs.Season as season
use Rattle.records.specs.Answers.{answer_in}
use Rattle.lines.specs.Text.{bytes_of}
use Rattle.lines.proofs.WritingLaws.{room_for, wrote_as}
use Rattle.script.specs.Answers.{value_fields, text_of}
use Rattle.script.proofs.answers.write_done.Goals as goal

done-text : (figure : Option ℕ) → figure ≡ None → 111 ∷ 107 ∷ 10 ∷ [] ≡ text_of (answer_in (Ok figure))
unfolding text_of value_fields bytes_of answer_in
done-text figure e = ap (λ f. text_of (answer_in (Ok f))) (sym e)

value-text : (figure : Option ℕ) (v : ℕ) → figure ≡ Some v → text_of (season.value v) ≡ text_of (answer_in (Ok figure))
unfolding answer_in
value-text figure v e = ap (λ f. text_of (answer_in (Ok f))) (sym e)

pub write-requires : goal.write-requires
write-requires c = room_for c.args.out.now _ _ (done-text c.args.figure c.in-None.is) c.requires

pub write_value-requires : goal.write_value-requires
write_value-requires c = room_for c.args.out.now _ _ (value-text c.args.figure c.in-Some.v c.in-Some.is) c.requires

pub returns-in-None : goal.returns-in-None
returns-in-None c = wrote_as c.args.out.now c.write.new.self _ _ (done-text c.args.figure c.in-None.is) c.write.ensures

pub returns-in-Some : goal.returns-in-Some
returns-in-Some c = wrote_as c.args.out.now c.write_value.new.out _ _ (value-text c.args.figure c.in-Some.v c.in-Some.is) c.write_value.ensures
