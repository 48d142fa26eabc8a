-- `script::run::run_script` meets its contract: the two limits, the empty script, and a run. Assumes nothing.
use Prim.Native.Nat.{◌*◌, zero-le}
use mathlib.Core.Path.{sym, ap, ◌∙◌}
use native.Mathlib.Nat.{le_trans, le_of_eq}
use native.Mathlib.Omega.{arith}
use borrow.Author.Rules.{rules}
use lib.ListN.{length}
use Rattle.lines.specs.Writing.{written_at}
use Rattle.script.specs.Run.{answers_text}
use Rattle.lines.proofs.NextRowLaws.{row_count}
use Rattle.script.proofs.RunLaws.{long_bytes, long_lines, short_output, a_run, no_bytes, some_bytes}
use Rattle.script.proofs.run.run_script.Goals as goal

pub returns-then-script-gt-MAX_BYTES : goal.returns-then-script-gt-MAX_BYTES
returns-then-script-gt-MAX_BYTES c =
    let done = long_bytes _ _ c.if-script-gt-MAX_BYTES.true in record { refused = done.0; written = done.1; within = zero-le; output = done.2 }

pub returns-then-lines : goal.returns-then-lines
returns-then-lines c = let lines = c.count_lines-lines.ensures in
    let done = long_lines _ _ (le_trans c.if-lines.true (le_of_eq lines)) in record { refused = done.0; written = done.1; within = zero-le; output = done.2 }

pub returns-then-out-lines : goal.returns-then-out-lines
returns-then-out-lines c =
    let n = c.count_lines-lines.ensures in
    let lines = le_trans (le_of_eq (sym n)) c.if-lines.false in
    let bytes = c.if-script-gt-MAX_BYTES.false in
    let done = short_output _ _ bytes lines (le_trans c.if-out-lines.true (le_of_eq (ap (λ k. 16 * k) n))) in record { refused = done.0; written = done.1; within = zero-le; output = done.2 }

pub returns-then-is_empty : goal.returns-then-is_empty
returns-then-is_empty c =
    let done = no_bytes _ _ (search rules) in record { refused = done.0; written = done.1; within = zero-le; output = done.2 }

pub answer_script-requires : goal.answer_script-requires
answer_script-requires c =
    let n = c.count_lines-lines.ensures in
    let lines = le_trans (le_of_eq (sym n)) c.if-lines.false in
    let bytes = c.if-script-gt-MAX_BYTES.false in
    let room = c.if-out-lines.false in
    let rows = row_count c.args.script.now in
    let begun = c.new-output.ensures in
    let same = ap length begun.bytes in
    record { some = some_bytes _ (search rules); few = le_trans (le_of_eq rows) lines; room = omega arith }

pub returns : goal.returns
returns c =
    let n = c.count_lines-lines.ensures in
    let lines = le_trans (le_of_eq (sym n)) c.if-lines.false in
    let bytes = c.if-script-gt-MAX_BYTES.false in
    let room = le_trans (le_of_eq (ap (λ k. 16 * k) (sym n))) c.if-out-lines.false in
    let begun = c.new-output.ensures in
    let wrote = c.answer_script.ensures in
    let end = wrote.2 in
    let done = a_run c.args.script.now c.args.out.now bytes lines room c.answer_script.new.out.length c.answer_script.new.out.bytes.now (omega arith) (wrote.3 ∙ (λ i. written_at (begun.bytes i) (begun.nothing_written i) (answers_text c.args.script.now))) in
    record { refused = done.0; written = done.1; within = (let same = ap length begun.bytes in let fits = wrote.1 in omega arith); output = search (rules, done.2) }
