-- What opening a book answers and leaves (01, The book, and cause 16).
use Rattle.std.specs.Prelude.{cond, map, Result, Ok, Err}
use Rattle.ledger.specs.Opening.{Opening, legal}
use Rattle.records.specs.declared.refusal.Refusal.{Refusal}
use Rattle.records.specs.declared.refusal.Refusal.TheVariants.{BreaksRules}
use Rattle.records.specs.declared.setup.KeptOpening.{KeptOpening}
use Rattle.records.specs.Opening.{kept_opening, empty_opening, opening_from}
use Rattle.opening.specs.declared.book_setup.BookSetup.{BookSetup}
use Rattle.opening.specs.declared.setup_lists.SetupLists.{SetupLists}

-- the opening that a caller asks for
abbrev pub opening_asked : BookSetup → Opening
opening_asked s =
    opening_from s.holders s.sources s.sinks s.paths s.holder_kinds.now
    (map (λ line. line.kind) s.sink_lines.now)
    (map (λ line. line.parent) s.sink_lines.now)
    (map (λ line. line.source) s.path_lines.now)
    (map (λ line. line.sink) s.path_lines.now)
    s.settings

-- and one that is asked for by lists, each as it is
abbrev pub opening_listed : SetupLists → Opening
opening_listed s = opening_from s.holders s.sources s.sinks s.paths s.holder_kinds.now s.sink_kinds.now s.sink_parents.now s.path_sources.now s.path_sinks.now s.settings

-- a legal opening is kept, any other refused
unfoldable pub opened : Opening → Result KeptOpening Refusal
opened o = cond (legal o) (Ok (kept_opening o)) (Err BreaksRules)

-- the answer alone
unfoldable pub opening_answer : Opening → Result (Unit {0}) Refusal
opening_answer o = cond (legal o) (Ok tt) (Err BreaksRules)

-- beside a refusal stands an opening with nothing in it, so that every book returned is one that opening and calls lead to
unfoldable pub resulting_opening : Opening → Opening
resulting_opening o = cond (legal o) o empty_opening
