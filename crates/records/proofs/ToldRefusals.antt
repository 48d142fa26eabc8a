-- The number that refuses a call or a query is that of a refusal. Assumes nothing.
use mathlib.Core.Path.{◌≡◌, refl}
use mathlib.Core.Bool.{Bool, true, false, ◌&&◌}
use mathlib.Core.List.{List, [], ◌∷◌}
use lib.Dec.{eqb}
use borrow.Author.Tests.{eqb-true}
use Rattle.tariff.proofs.Tests.{and_both}
use Rattle.ledger.specs.Opening.{Opening}
use Rattle.ledger.specs.Ledger.{Ledger}
use Rattle.ledger.specs.Call.{Call, load, carry, prior, verify, migrate, open_tier, nominate, award, close_tier, Query, limit_of, held_on, net_on}
use Rattle.ledger.specs.Causes.{load_causes, carry_causes, prior_causes, verify_causes, migrate_causes, open_causes, nominate_causes, award_causes, close_causes, call_causes, refusal, limit_causes, held_causes, net_causes, query_causes, query_refusal}
use Rattle.ledger.specs.Numbers.{Cause, cause, first_met}
use Rattle.records.specs.Refusals.{number_of, refusal_of, refusals}

-- each cause of a list is under the number of a refusal
unfoldable told : List Cause → Bool
told [] = true
told (cause number met ∷ later) = eqb (number_of (refusal_of number)) number && told later

first_told : (causes : List Cause) → told causes ≡ true → (first_met causes ≡ 0 → ⊥) → number_of (refusal_of (first_met causes)) ≡ first_met causes
unfolding told first_met
first_told [] e ne = absurd (ne refl)
first_told (cause number true ∷ later) e ne = eqb-true _ _ (and_both _ (told later) e).0
first_told (cause number false ∷ later) e ne = first_told later (and_both (eqb (number_of (refusal_of number)) number) (told later) e).1 ne

calls_told : (o : Opening) (L : Ledger) (c : Call) → told (call_causes o L c) ≡ true
unfolding told refusal_of refusals call_causes load_causes carry_causes prior_causes verify_causes migrate_causes open_causes nominate_causes award_causes close_causes
calls_told o L (load h s term contract n blocks) = refl
calls_told o L (carry h p kw) = refl
calls_told o L (prior h p a l) = refl
calls_told o L (verify h s kind capacity right first last mark) = refl
calls_told o L (migrate term sink lines) = refl
calls_told o L (open_tier tier) = refl
calls_told o L (nominate h p kw) = refl
calls_told o L (award h p kw) = refl
calls_told o L close_tier = refl

queries_told : (o : Opening) (L : Ledger) (q : Query) → told (query_causes o L q) ≡ true
unfolding told refusal_of refusals query_causes limit_causes held_causes net_causes
queries_told o L (limit_of h s) = refl
queries_told o L (held_on h p m) = refl
queries_told o L (net_on p m) = refl

pub call_told : (o : Opening) (L : Ledger) (c : Call) → (refusal o L c ≡ 0 → ⊥) → number_of (refusal_of (refusal o L c)) ≡ refusal o L c
unfolding refusal
call_told o L c = first_told (call_causes o L c) (calls_told o L c)

pub query_told : (o : Opening) (L : Ledger) (q : Query) → (query_refusal o L q ≡ 0 → ⊥) → number_of (refusal_of (query_refusal o L q)) ≡ query_refusal o L q
unfolding query_refusal
query_told o L q = first_told (query_causes o L q) (queries_told o L q)
