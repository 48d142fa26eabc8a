-- What a script is answered, and the bytes of an answer (01, Script and host).
use Rattle.std.specs.Prelude.{ℕ, ◌/◌, ◌%◌, cond, List, [], ◌∷◌, ◌++◌}
use Rattle.ledger.specs.Numbers.{unreadable}
use Rattle.ledger.specs.Opening.{Opening, legal, opening_refusal}
use Rattle.ledger.specs.Ledger.{Ledger, empty_ledger}
use Rattle.ledger.specs.Season.{Answer, done, values, refused, answer, step_request}
use Rattle.lines.specs.declared.rows.Row.{Row}
use Rattle.lines.specs.Text.{bytes_of, line_feed, comma, digit, decimal}
use Rattle.groups.specs.Groups.{Group, unreadable_group, request, groups_of, book_readable, opening_of_rows, call_rows}

-- a group with an unreadable or absent line gets one 1 and is passed over
unfoldable pub answers_to : Opening → Ledger → List Group → List Answer
answers_to o L [] = []
answers_to o L (unreadable_group ∷ groups) = refused unreadable ∷ answers_to o L groups
answers_to o L (request a ∷ groups) = answer o L a ∷ answers_to o (step_request o L a) groups

-- after a refused book group the run stops
unfoldable pub answers_after : Opening → List Row → List Answer
answers_after o rows = cond (legal o) (done ∷ answers_to o empty_ledger (groups_of rows)) (refused (opening_refusal o) ∷ [])

-- a first line other than a readable book head is refused as a book group, with 1
unfoldable pub script_answers : List Row → List Answer
script_answers [] = []
script_answers (head ∷ rows) = cond (book_readable head rows) (answers_after (opening_of_rows head rows) (call_rows head rows)) (refused unreadable ∷ [])

-- a value's field: a comma and its digits
unfoldable pub value_field : ℕ → List ℕ
value_field v = comma ∷ decimal v

unfoldable pub value_fields : List ℕ → List ℕ
value_fields [] = []
value_fields (v ∷ vs) = value_field v ++ value_fields vs

-- ok and a field for each value, or no,NN; a refusal's number has two digits
unfoldable pub text_of : Answer → List ℕ
text_of (values vs) = bytes_of "ok" ++ value_fields vs ++ (line_feed ∷ [])
text_of (refused number) = bytes_of "no," ++ (digit (number / 10 % 10) ∷ digit (number % 10) ∷ line_feed ∷ [])

unfoldable pub texts_of : List Answer → List ℕ
texts_of [] = []
texts_of (a ∷ answers) = text_of a ++ texts_of answers
