-- The plain ledger over a list of calls, and what it answers (01, The plain ledger).
use Rattle.std.specs.Prelude.{ℕ, ◌+◌, Bool, cond, List, [], ◌∷◌, eqb}
use Rattle.tariff.specs.Sum.{sum_to}
use Rattle.ledger.specs.Opening.{Opening, base, legal, opening_refusal}
use Rattle.ledger.specs.Call.{Call, Query, limit_of, held_on, net_on}
use Rattle.ledger.specs.Ledger.{Ledger, empty_ledger}
use Rattle.ledger.specs.Limits.{tier_limit}
use Rattle.ledger.specs.Causes.{refusal, query_refusal}
use Rattle.ledger.specs.Effects.{effect}

-- a call that meets no cause is accepted
unfoldable pub accepted : Opening → Ledger → Call → Bool
accepted o L c = eqb (refusal o L c) 0

-- an accepted call has its effect, a refused one changes nothing
unfoldable pub step : Opening → Ledger → Call → Ledger
step o L c = cond (accepted o L c) (effect o L c) L

-- the ledger after a list of calls
unfoldable pub after_from : Opening → Ledger → List Call → Ledger
after_from o L [] = L
after_from o L (c ∷ cs) = after_from o (step o L c) cs

unfoldable pub after : Opening → List Call → Ledger
after o cs = after_from o empty_ledger cs

-- a holding is carried plus awarded kW
unfoldable pub held : Ledger → ℕ → ℕ → ℕ → ℕ
held L h p m = L.rights.carried h p m + L.rights.awarded h p m

-- net: the holdings on a path in a month, over all holders
unfoldable pub net : Opening → Ledger → ℕ → ℕ → ℕ
net o L p m = sum_to o.holders (λ h. held L h p m)

-- what a query answers where it meets no cause; a limit is that of the sink's base in the open tier
unfoldable pub query_value : Opening → Ledger → Query → ℕ
query_value o L (limit_of h s) = tier_limit o L L.tiers.current_tier h (base o s)
query_value o L (held_on h p m) = held L h p m
query_value o L (net_on p m) = net o L p m

-- an answer: accepted, with a list of values, or refused with a number
pub data Answer : Type 0 where
  values : List ℕ → Answer
  refused : ℕ → Answer

-- an accepted call has no values, an accepted query one
abbrev pub done : Answer
done = values []

abbrev pub value : ℕ → Answer
value v = values (v ∷ [])

-- a request is a call or a query; a script makes them in any order
pub data Request : Type 0 where
  call : Call → Request
  query : Query → Request

unfoldable pub answer : Opening → Ledger → Request → Answer
answer o L (call c) = cond (accepted o L c) done (refused (refusal o L c))
answer o L (query q) = cond (eqb (query_refusal o L q) 0) (value (query_value o L q)) (refused (query_refusal o L q))

-- a query changes nothing
unfoldable pub step_request : Opening → Ledger → Request → Ledger
step_request o L (call c) = step o L c
step_request o L (query q) = L

unfoldable pub answers : Opening → Ledger → List Request → List Answer
answers o L [] = []
answers o L (a ∷ requests) = answer o L a ∷ answers o (step_request o L a) requests

-- a whole season: the opening's answer, and those of the requests after it; nothing is answered past a refused opening
unfoldable pub season : Opening → List Request → List Answer
season o requests = cond (legal o) (done ∷ answers o empty_ledger requests) (refused (opening_refusal o) ∷ [])
