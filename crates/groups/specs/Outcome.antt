-- The first group of a script's rest: its request, the bytes that it takes, and its outcome.
use Rattle.records.specs.declared.setup.KeptOpening.{KeptOpening}
use Rattle.std.specs.Prelude.{ℕ, ◌+◌, ◌≡◌, Bool, List, drop, Result, Err}
use Rattle.std.specs.Fn.{Mut, CalledAt}
use Rattle.std.specs.Borrow.{Bor}
use Rattle.source_evidence.specs.declared.evidence.Entry.{Entry}
use Rattle.ledger.specs.Season.{call, query}
use Rattle.records.specs.declared.refusal.Refusal.{Refusal}
use Rattle.records.specs.declared.refusal.Refusal.TheVariants.{Unreadable}
use Rattle.records.specs.Answers.{Answer, of_call, of_query}
use Rattle.slots.specs.Steps.{Reachable}
use Rattle.book.specs.declared.book.Book.{Book}
use Rattle.book.specs.Reading.{book_in}
use Rattle.book.specs.Outcomes.{outcome_of, query_answer_in}
use Rattle.lines.specs.declared.rows.Row.{Row}
use Rattle.lines.specs.Reading.{next_row}
use Rattle.counted_lines.specs.Counted.{bytes_of_lines, rows_counted}
use Rattle.groups.specs.declared.outcome.GroupOutcome.{GroupOutcome}
use Rattle.groups.specs.Groups.{Group, unreadable_group, request, lines_counted, request_of}

-- a head with the lines that stand after it: the group that they make, and the bytes of those lines
unfoldable pub head_group : Row → List ℕ → Group
head_group head rest = request_of head (rows_counted (lines_counted head) rest)

unfoldable pub head_bytes : Row → List ℕ → ℕ
head_bytes head rest = bytes_of_lines (lines_counted head) rest

-- the first group, with the head's own line
unfoldable pub first_group : List ℕ → Group
first_group rest = head_group (next_row rest).row (drop (next_row rest).consumed rest)

unfoldable pub group_bytes : List ℕ → ℕ
group_bytes rest = (next_row rest).consumed + head_bytes (next_row rest).row (drop (next_row rest).consumed rest)

-- what a group is answered, beside the book that it leads to
pub record Answered : Type 0 where
  pub answer : Answer
  pub book : Book

-- a group's outcome with a book: an unreadable one is answered 1 and passed over; a query leaves the book as it is
unfoldable pub outcome_of_group : Book → Group → Answered
outcome_of_group b unreadable_group = record { answer = Err Unreadable; book = b }
outcome_of_group b (request (call c)) = record { answer = of_call (outcome_of b c).answer; book = (outcome_of b c).book }
outcome_of_group b (request (query q)) = record { answer = of_query (query_answer_in b q); book = b }

-- a head that counts no lines takes no bytes after it
unfoldable pub of_one_line : Answer → GroupOutcome
of_one_line answer = record { answer = answer; consumed = 0 }

-- an answer and the book beside it are those that a group, put to a book, leads to
abbrev pub Answers : Book → Group → Answer → Book → Type 0
Answers b g answer next = ◌≡◌ {A = Answered} (record { answer = answer; book = next }) (outcome_of_group b g)

-- the same where the opening and the figures are lent, whatever stands in the arrays that are not
abbrev pub FiguresAnswers : (o : KeptOpening) (f : List ℕ) → Group → Answer → List ℕ → Type 0
FiguresAnswers o f g answer f' = (m : List Bool) (x : List Entry) → Reachable o f m x → Answers (book_in o f m x) g answer (book_in o f' m x)

-- and where the postings are lent too
abbrev pub PostingsAnswers : (o : KeptOpening) (f : List ℕ) (m : List Bool) → Group → Answer → List ℕ → List Bool → Type 0
PostingsAnswers o f m g answer f' m' = (x : List Entry) → Reachable o f m x → Answers (book_in o f m x) g answer (book_in o f' m' x)

-- and where the evidence, which is never lent, may change: it is that of the book that the group leads to
abbrev pub GroupAnswers : (o : KeptOpening) (f : List ℕ) (m : List Bool) → Group → Answer → List ℕ → List Bool → Type 0
GroupAnswers o f m g answer f' m' = (x : List Entry) → Reachable o f m x → Answers (book_in o f m x) g answer (book_in o f' m' (outcome_of_group (book_in o f m x) g).book.evidence)

-- lines put to a call, and the answer of the call
pub record AnswersLines {F T : Type 0} (g : Mut F (Bor T × Unit {0}) (Result (Unit {0}) Refusal)) (call : F) (lines : T) (answer : Answer) (call' : F) : Type 0 where
  pub called : Result (Unit {0}) Refusal
  pub put : CalledAt g call lines called call'
  pub answered : answer ≡ of_call called
