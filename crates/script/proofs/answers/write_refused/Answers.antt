-- `answers::write_refused` meets its contract. Assumes nothing.
use Prim.Native.Nat.{ℕ, ◌/◌, ◌%◌}
use mathlib.Core.Path.{◌≡◌}
use mathlib.Core.List.{[], ◌∷◌}
use borrow.Author.Rules.{rules}
use Rattle.ledger.specs.Season.{refused}
use Rattle.lines.specs.Text.{bytes_of, digit}
use Rattle.lines.proofs.WritingLaws.{wrote_as}
use Rattle.script.specs.Answers.{text_of}
use Rattle.script.proofs.answers.write_refused.Goals as goal

line-is : (number tens ones : ℕ) → tens ≡ digit (number / 10 % 10) → ones ≡ digit (number % 10) → 110 ∷ 111 ∷ 44 ∷ tens ∷ ones ∷ 10 ∷ [] ≡ text_of (refused number)
unfolding text_of bytes_of
line-is number tens ones t o i = 110 ∷ 111 ∷ 44 ∷ t i ∷ o i ∷ 10 ∷ []

pub write-requires : goal.write-requires
unfolding text_of bytes_of
write-requires c = search rules

pub returns : goal.returns
returns c =
    let ones = c.digit_byte-ones in
    let tens = c.digit_byte-tens in
    wrote_as c.args.out.now c.write.new.self _ _ (line-is c.args.number tens.result ones.result tens.ensures ones.ensures) c.write.ensures
