-- Groups put to a book, one after another, and the text of what it answers.
use Rattle.std.specs.Prelude.{ℕ, List, [], ◌∷◌, map}
use Rattle.book.specs.declared.book.Book.{Book}
use Rattle.records.specs.Answers.{Answer, answer_in}
use Rattle.lines.specs.Rows.{rows_of}
use Rattle.groups.specs.Groups.{Group, groups_of}
use Rattle.groups.specs.Outcome.{outcome_of_group}
use Rattle.script.specs.Answers.{texts_of}

-- what a book answers to groups, each put to the book that the one before passed on
unfoldable pub answers_of : Book → List Group → List Answer
answers_of b [] = []
answers_of b (g ∷ groups) = (outcome_of_group b g).answer ∷ answers_of (outcome_of_group b g).book groups

-- the text of what a book answers to the groups of some bytes
unfoldable pub text_from : Book → List ℕ → List ℕ
text_from b rest = texts_of (map answer_in (answers_of b (groups_of (rows_of rest))))
