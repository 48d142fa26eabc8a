-- `answers::write_field` meets its contract: a comma and digits, one after the other. Assumes nothing.
use mathlib.Core.List.{[], ◌∷◌}
use borrow.Author.Rules.{rules}
use Rattle.lines.specs.Text.{comma, decimal}
use Rattle.lines.proofs.WritingLaws.{room_left, wrote_both}
use Rattle.script.specs.Answers.{value_field}
use Rattle.script.proofs.answers.write_field.Goals as goal

pub write-requires : goal.write-requires
unfolding value_field
write-requires c = search rules

pub write_decimal-requires : goal.write_decimal-requires
unfolding value_field
write_decimal-requires c = room_left c.args.out.now c.write.new.self (comma ∷ []) c.write.ensures (decimal c.args.v) c.requires

pub returns : goal.returns
unfolding value_field
returns c = wrote_both c.args.out.now c.write.new.self (comma ∷ []) c.write.ensures c.write_decimal.new.out (decimal c.args.v) c.write_decimal.ensures
