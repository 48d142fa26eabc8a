-- A script whose book group is readable and whose groups are all readable is answered as the ledger answers a season. Assumes nothing.
use Prim.Native.Nat.{ℕ}
use mathlib.Core.Path.{◌≡◌, refl, ap}
use mathlib.Core.Bool.{true, cond}
use mathlib.Core.List.{List, [], ◌∷◌, map}
use Rattle.ledger.specs.Opening.{Opening, legal, opening_refusal}
use Rattle.ledger.specs.Ledger.{Ledger, empty_ledger}
use Rattle.ledger.specs.Season.{Request, done, refused, answer, step_request, answers, season}
use Rattle.lines.specs.declared.rows.Row.{Row}
use Rattle.lines.specs.Rows.{rows_of}
use Rattle.groups.specs.Groups.{request, groups_of, book_readable, opening_of_rows, call_rows}
use Rattle.script.specs.Answers.{answers_to, answers_after, script_answers, texts_of}
use Rattle.script.specs.Run.{answers_text}

requests_answers : (o : Opening) (L : Ledger) (requests : List Request) → answers_to o L (map request requests) ≡ answers o L requests
unfolding answers_to answers
requests_answers o L [] = refl
requests_answers o L (a ∷ requests) = ap (λ later. answer o L a ∷ later) (requests_answers o (step_request o L a) requests)

requests_after : (o : Opening) (rows : List Row) (requests : List Request) → groups_of rows ≡ map request requests → answers_after o rows ≡ season o requests
unfolding answers_after season
requests_after o rows requests groups = ap (λ later. cond (legal o) (done ∷ later) (refused (opening_refusal o) ∷ [])) (rw groups (requests_answers o empty_ledger requests))

-- rows of a season: a readable book group of this opening, and groups that make these requests
unfoldable pub RowsOfSeason : Opening → List Request → List Row → Type 0
RowsOfSeason o requests [] = ⊥
RowsOfSeason o requests (head ∷ rows) = (book_readable head rows ≡ true) × (opening_of_rows head rows ≡ o) × (groups_of (call_rows head rows) ≡ map request requests)

season_rows : (o : Opening) (requests : List Request) (rows : List Row) → RowsOfSeason o requests rows → script_answers rows ≡ season o requests
unfolding RowsOfSeason script_answers
season_rows o requests [] none = absurd none
season_rows o requests (head ∷ rows) (readable, opening, groups) = rw readable (rw opening (requests_after o (call_rows head rows) requests groups))

pub season_script : (o : Opening) (requests : List Request) (script : List ℕ) → RowsOfSeason o requests (rows_of script) → answers_text script ≡ texts_of (season o requests)
unfolding answers_text
season_script o requests script given = ap texts_of (season_rows o requests (rows_of script) given)
