-- `groups::counted_calls::run_migrate` meets its contract: the migrate is put to the book, if its lines are complete. Assumes nothing.
use Rattle.std.proofs.Common.{rules, ◌≡◌, refl, ap, ◌∙◌}
use Rattle.ledger.specs.Call.{migrate}
use Rattle.slots.specs.Steps.{FiguresStep}
use Rattle.book.specs.Reading.{book_in}
use Rattle.book.specs.Outcomes.{outcome_of}
use Rattle.book.proofs.OutcomeBooks.{outcome_book}
use Rattle.lines.specs.Rows.{field}
use Rattle.groups.proofs.OutcomeLaws.{counted_outcome, outcome_bytes, migrate_counts}
use Rattle.groups.proofs.HeadLaws.{migrate_request, by_call, answers_as}
use Rattle.groups.proofs.counted_calls.run_migrate.Goals as goal

pub returns-clause-answer : goal.returns-clause-answer
unfolding field
returns-clause-answer c m x k =
    counted_outcome _ _ _ _ _ (migrate_counts _ c.requires.migrate) (migrate_request _ _ c.requires.migrate) _ _ _
    (λ e.
    let l = c.answer_counted.ensures.read e in
    let step : FiguresStep c.args.o.now c.args.f.now (migrate (field 0 c.args.head) (field 1 c.args.head) l.put.shown.now) l.called c.f-1.given.0 = search rules in
    answers_as _ _ _ _ _ l.answered
    (by_call _ _ _ _ _
    (outcome_book _ _ _ _ _ _ _ _ _ (step m x k)
    ∙ ap (λ lines. outcome_of (book_in c.args.o.now c.args.f.now m x) (migrate (field 0 c.args.head) (field 1 c.args.head) lines)) l.put.shows)
    refl))
    (λ e.
    let u = c.answer_counted.ensures.unread e in
    let f : c.f-1.given.0 ≡ c.args.f.now = search rules in
    (u.0, λ i. book_in c.args.o.now (f i) m x))

pub returns-clause-consumed : goal.returns-clause-consumed
unfolding field
returns-clause-consumed c = c.answer_counted.ensures.consumed ∙ outcome_bytes _ _ _ (migrate_counts _ c.requires.migrate)
