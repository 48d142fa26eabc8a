-- `lines::rows::read_fields` meets its contract: what is read of the fields so far, and what is left of the line, give what is read of them all. Assumes nothing.
use mathlib.Core.Path.{◌≡◌, refl, ap, ◌∙◌}
use native.Mathlib.Omega.{arith}
use lib.ListN.{get_or, length-set}
use Rattle.tariff.specs.Sum.{tabulate}
use Rattle.lines.specs.Text.{comma}
use Rattle.lines.proofs.FieldLaws.{rest_all, zeros, read_from, reading_starts, stops_at_none, next_within, continues}
use borrow.Author.Rules.{rules}
use Rattle.lines.proofs.rows.read_fields.Goals as goal

pub loop-count-init : goal.loop-count-init
unfolding zeros tabulate
loop-count-init c = (omega arith, refl, omega arith, reading_starts c.args.rest.now ∙ ap (λ n. read_from 0 zeros n c.args.rest.now) (omega arith))

pub returns-in_err-field : goal.returns-in_err-field
returns-in_err-field c =
    let left = c.loop-count.left.now in
    let here : get_or left 0 0 ≡ comma = search rules in
    c.from_residual.ensures ∙ stops_at_none _ left _ _ c.loop-count.invariant.2 c.loop-count.invariant.3 c.in-44.len_at_least here _ (rest_all left 1) c.in_err-field.ensures

pub slice_bounds-left-count : goal.slice_bounds-left-count
slice_bounds-left-count c =
    let left = c.loop-count.left.now in
    let here : get_or left 0 0 ≡ comma = search rules in
    (next_within _ left _ _ c.loop-count.invariant.2 c.loop-count.invariant.3 c.in-44.len_at_least here _ (rest_all left 1) _ c.in_ok-field.ensures _ refl).0

pub slice_bounds-left-start : goal.slice_bounds-left-start
slice_bounds-left-start c =
    let left = c.loop-count.left.now in
    let here : get_or left 0 0 ≡ comma = search rules in
    let within = (next_within _ left _ _ c.loop-count.invariant.2 c.loop-count.invariant.3 c.in-44.len_at_least here _ (rest_all left 1) _ c.in_ok-field.ensures _ refl).0 in
    search rules

pub loop-count-preserved : goal.loop-count-preserved
loop-count-preserved c =
    let loop = c.loop-count in
    let left = loop.left.now in
    let here : get_or left 0 0 ≡ comma = search rules in
    let some = c.in-44.len_at_least in
    let read = c.in_ok-field.ensures in
    let follows = rest_all _ c.in_ok-field.field.end in (
      omega arith,
      length-set loop.numbers loop.count _ ∙ loop.invariant.1,
      (next_within _ left _ _ loop.invariant.2 loop.invariant.3 some here _ (rest_all left 1) _ read _ follows).1,
      continues _ left _ _ loop.invariant.2 loop.invariant.3 some here _ (rest_all left 1) _ read _ follows,
    )
