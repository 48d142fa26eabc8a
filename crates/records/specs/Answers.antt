-- The ledger's answers as code gives them.
use Rattle.std.specs.Prelude.{ℕ, [], ◌∷◌, Option, None, Some, Result, Ok, Err}
use Rattle.ledger.specs.Season as season
use Rattle.records.specs.declared.refusal.Refusal.{Refusal}
use Rattle.records.specs.Refusals.{number_of, refusal_of}

-- what a call answers: the ledger answers an accepted one with no value
unfoldable pub called : season.Answer → Result (Unit {0}) Refusal
called (season.values vs) = Ok tt
called (season.refused number) = Err (refusal_of number)

-- what a query answers: the ledger answers an accepted one with one value, its figure
unfoldable pub queried : season.Answer → Result ℕ Refusal
queried (season.values []) = Ok 0
queried (season.values (v ∷ vs)) = Ok v
queried (season.refused number) = Err (refusal_of number)

-- either of them
abbrev pub Answer : Type 0
Answer = Result (Option ℕ) Refusal

-- 01's number and values for each answer
unfoldable pub answer_in : Answer → season.Answer
answer_in (Ok None) = season.done
answer_in (Ok (Some v)) = season.value v
answer_in (Err refusal) = season.refused (number_of refusal)

-- a call's answer, and a query's, as one of them
unfoldable pub of_call : Result (Unit {0}) Refusal → Answer
of_call (Ok done) = Ok None
of_call (Err refusal) = Err refusal

unfoldable pub of_query : Result ℕ Refusal → Answer
of_query (Ok v) = Ok (Some v)
of_query (Err refusal) = Err refusal
