-- `answers::write_answer` meets its contract, by whether the answer is a refusal. Assumes nothing.
use mathlib.Core.Path.{◌≡◌, sym, ap}
use Rattle.std.specs.Prelude.{Err}
use Rattle.ledger.specs.Season as season
use Rattle.records.specs.declared.refusal.Refusal.{Refusal}
use Rattle.records.specs.Refusals.{number_of}
use Rattle.records.specs.Answers.{Answer, answer_in}
use Rattle.lines.proofs.WritingLaws.{room_for, wrote_as}
use Rattle.script.specs.Answers.{text_of}
use Rattle.script.proofs.answers.write_answer.Goals as goal

refusal-text : (answer : Answer) (refusal : Refusal) → answer ≡ Err refusal → text_of (season.refused (number_of refusal)) ≡ text_of (answer_in answer)
unfolding answer_in
refusal-text answer refusal e = ap (λ a. text_of (answer_in a)) (sym e)

pub write_refusal-requires : goal.write_refusal-requires
write_refusal-requires c = room_for c.args.out.now _ _ (refusal-text c.args.answer c.in-Err.refusal c.in-Err.is) c.requires

pub returns-in-Err : goal.returns-in-Err
returns-in-Err c = wrote_as c.args.out.now c.write_refusal.new.out _ _ (refusal-text c.args.answer c.in-Err.refusal c.in-Err.is) c.write_refusal.ensures
