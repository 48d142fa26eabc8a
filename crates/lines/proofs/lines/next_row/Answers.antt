-- `lines::lines::next_row` meets its contract: a word and the fields after it up to an LF are the line's row, and any other line is passed over. Assumes nothing.
use mathlib.Core.Path.{sym, ◌∙◌}
use native.Mathlib.Omega.{arith}
use denote.Enum.Bare.{same_true, same_false}
use Rattle.lines.specs.contracts.rows.LineKind.{the_type}
use Rattle.lines.proofs.FieldLaws.{rest_all}
use Rattle.lines.proofs.ReadRowLaws.{key_fits, count_fits, end_within, fields_unread, word_unknown, row_read}
use Rattle.tariff.specs.Sum.{tabulate}
use Rattle.lines.proofs.lines.next_row.Goals as goal

pub returns-in_default : goal.returns-in_default
returns-in_default c = c.unreadable_line.ensures ∙ fields_unread _ _ c.read_word-word.ensures _ (rest_all c.args.rest.now c.read_word-word.result.end) c.in_default.ensures

pub kind_of-kind-requires : goal.kind_of-kind-requires
kind_of-kind-requires c = (key_fits _ _ c.read_word-word.ensures, count_fits _ _ c.read_word-word.ensures _ (rest_all c.args.rest.now c.read_word-word.result.end) _ c.in-Some.ensures)

pub returns-then-eq : goal.returns-then-eq
returns-then-eq c =
    c.unreadable_line-then-eq.ensures ∙ word_unknown _ _ c.read_word-word.ensures _ (rest_all c.args.rest.now c.read_word-word.result.end) _ c.in-Some.ensures _ c.kind_of-kind.ensures (same_true the_type tt _ _ (sym c.if-eq.ensures))

pub overflow_add-end : goal.overflow_add-end
overflow_add-end c =
    let within = end_within _ _ c.read_word-word.ensures _ (rest_all c.args.rest.now c.read_word-word.result.end) _ c.in-Some.ensures in omega (arith, within)

pub overflow_add-result : goal.overflow_add-result
overflow_add-result c =
    let within = end_within _ _ c.read_word-word.ensures _ (rest_all c.args.rest.now c.read_word-word.result.end) _ c.in-Some.ensures in omega (arith, within)

pub returns : goal.returns
unfolding tabulate
returns c = row_read _ _ c.read_word-word.ensures _ (rest_all c.args.rest.now c.read_word-word.result.end) _ c.in-Some.ensures _ c.kind_of-kind.ensures (same_false the_type _ _ (sym c.if-eq.ensures))
