-- Every answer that the ledger or a book gives has its place in sixteen bytes: a refusal's number has two digits, a figure at most twelve. Assumes nothing.
use Prim.Native.Nat.{ℕ, ◌*◌, ◌≤◌, ◌<◌}
use mathlib.Core.Path.{◌≡◌, refl, sym, ap, ◌∙◌, subst}
use mathlib.Core.Bool.{Bool, true, false, cond, ◌&&◌}
use mathlib.Core.List.{List, [], ◌∷◌}
use native.Mathlib.Nat.{le_trans}
use native.Mathlib.Omega.{arith}
use lib.Dec.{ltb, eqb}
use borrow.Author.Tests.{ltb-true, eqb-true}
use Rattle.tariff.proofs.Tests.{and_both}
use Rattle.tariff.proofs.Limits.{limit_le_load}
use Rattle.tariff.specs.Terms.{term_of}
use Rattle.ledger.specs.Opening.{Opening, legal, base, opening_refusal}
use Rattle.ledger.specs.Ledger.{Ledger}
use Rattle.ledger.specs.Call.{Call, load, carry, prior, verify, migrate, open_tier, nominate, award, close_tier, Query, limit_of, held_on, net_on}
use Rattle.ledger.specs.Numbers.{Cause, cause, first_met}
use Rattle.ledger.specs.Causes.{load_causes, carry_causes, prior_causes, verify_causes, migrate_causes, open_causes, nominate_causes, award_causes, close_causes, call_causes, refusal, limit_causes, held_causes, net_causes, query_causes, query_refusal}
use Rattle.ledger.specs.Limits.{limit_sums, tier_limit}
use Rattle.ledger.specs.Season.{Request, call, query, done, value, refused, accepted, answer, after, held, net, query_value}
use Rattle.ledger.proofs.LegalFacts.{legal_facts}
use Rattle.ledger.proofs.Bounds.{max_together, figures_fit, one_fits}
use Rattle.ledger.proofs.Conserved.{load_sum}
use Rattle.ledger.proofs.SumBounds.{net_fits}
use Rattle.ledger.proofs.Unmet.{unmet, open_number}
use Rattle.ledger.proofs.QueryFacts.{limit_holder, held_names, net_names}
use Rattle.book.specs.declared.book.Book.{Book}
use Rattle.records.specs.Answers.{answer_in, of_call, of_query}
use Rattle.book.specs.Outcomes.{outcome_of, query_answer_in}
use Rattle.book.specs.Reachable.{Reachable}
use Rattle.book.proofs.ReachableSteps.{reachable_book}
use Rattle.book.proofs.SeasonAnswers.{call_answered, query_answered}
use Rattle.script.specs.Writing.{answer_value_bound, Writable}
use Rattle.script.proofs.AnswerLaws.{done_writable, value_writable, refused_writable}

-- each cause of a list has a number of two digits
unfoldable two_digits : List Cause → Bool
two_digits [] = true
two_digits (cause number met ∷ later) = ltb number 100 && two_digits later

first_met_lem : (causes : List Cause) → two_digits causes ≡ true → first_met causes < 100
unfolding two_digits first_met
first_met_lem [] e = omega arith
first_met_lem (cause number met ∷ later) e =
    let both = and_both (ltb number 100) (two_digits later) e in
    go met (ltb-true number 100 both.0) (first_met_lem later both.1)
  where
    go : (t : Bool) → number < 100 → first_met later < 100 → first_met (cause number t ∷ later) < 100
    go true here there = here
    go false here there = there

call_numbers : (o : Opening) (L : Ledger) (c : Call) → two_digits (call_causes o L c) ≡ true
unfolding two_digits call_causes load_causes carry_causes prior_causes verify_causes migrate_causes open_causes nominate_causes award_causes close_causes
call_numbers o L (load h s term contract n blocks) = refl
call_numbers o L (carry h p kw) = refl
call_numbers o L (prior h p a l) = refl
call_numbers o L (verify h s kind capacity right first last mark) = refl
call_numbers o L (migrate term sink lines) = refl
call_numbers o L (open_tier tier) = refl
call_numbers o L (nominate h p kw) = refl
call_numbers o L (award h p kw) = refl
call_numbers o L close_tier = refl

query_numbers : (o : Opening) (L : Ledger) (q : Query) → two_digits (query_causes o L q) ≡ true
unfolding two_digits query_causes limit_causes held_causes net_causes
query_numbers o L (limit_of h s) = refl
query_numbers o L (held_on h p m) = refl
query_numbers o L (net_on p m) = refl

pub refusal_small : (o : Opening) (L : Ledger) (c : Call) → refusal o L c < 100
unfolding refusal
refusal_small o L c = first_met_lem (call_causes o L c) (call_numbers o L c)

pub query_refusal_small : (o : Opening) (L : Ledger) (q : Query) → query_refusal o L q < 100
unfolding query_refusal
query_refusal_small o L q = first_met_lem (query_causes o L q) (query_numbers o L q)

pub opening_refusal_small : (o : Opening) → opening_refusal o < 100
unfolding opening_refusal
opening_refusal_small o = go (legal o)
  where
    go : (t : Bool) → cond t 0 16 < 100
    go true = omega arith
    go false = omega arith

module _ (o : Opening) (ok : legal o ≡ true) (cs : List Call) where
  -- a limit is at most the load of one holder
  limit-small : (h s : ℕ) → query_refusal o (after o cs) (limit_of h s) ≡ 0 → tier_limit o (after o cs) (after o cs).tiers.current_tier h (base o s) ≤ max_together
  unfolding tier_limit limit_sums query_refusal query_causes limit_causes load_sum
  limit-small h s e =
      let L = after o cs in
      let tier = L.tiers.current_tier in
      le_trans (limit_le_load o.settings (legal_facts o ok).settings (limit_sums o L tier h (base o s)) tier (open_number L (unmet 3 _ _ (unmet 1 _ _ e).1).0))
      (one_fits (λ i. L.loads.kw i (base o s) (term_of tier)) o.holders max_together h (limit_holder o L h s e) ((figures_fit o ok cs).loads_fit (base o s) (term_of tier)))

  -- a holding is one of those that a net sums
  held_small : (h p m : ℕ) → (h < o.holders) × (p < o.paths) → held (after o cs) h p m ≤ 11 * max_together
  unfolding net
  held_small h p m known = one_fits (λ i. held (after o cs) i p m) o.holders (11 * max_together) h known.0 (net_fits o ok cs p m known.1)

  figure-small : (q : Query) → query_refusal o (after o cs) q ≡ 0 → query_value o (after o cs) q < answer_value_bound
  unfolding query_value
  figure-small (limit_of h s) e = let most = limit-small h s e in omega arith
  figure-small (held_on h p m) e = let most = held_small h p m (held_names o (after o cs) h p m e) in omega arith
  figure-small (net_on p m) e = let most = net_fits o ok cs p m (net_names o (after o cs) p m e) in omega arith

  -- whatever is asked of a ledger that calls lead to
  pub answer_writable : (a : Request) → Writable (answer o (after o cs) a)
  unfolding answer
  answer_writable (call c) = go (accepted o (after o cs) c)
    where
      go : (t : Bool) → Writable (cond t done (refused (refusal o (after o cs) c)))
      go true = done_writable
      go false = refused_writable (refusal o (after o cs) c) (refusal_small o (after o cs) c)
  answer_writable (query q) = go (eqb (query_refusal o (after o cs) q) 0) refl
    where
      go : (t : Bool) → eqb (query_refusal o (after o cs) q) 0 ≡ t → Writable (cond t (value (query_value o (after o cs) q)) (refused (query_refusal o (after o cs) q)))
      go true e = value_writable (query_value o (after o cs) q) (figure-small q (eqb-true (query_refusal o (after o cs) q) 0 e))
      go false e = refused_writable (query_refusal o (after o cs) q) (query_refusal_small o (after o cs) q)

-- and of a book that opening or a call returned
module _ (b : Book) (r : Reachable b) where
  pub outcome_writable : (c : Call) → Writable (answer_in (of_call (outcome_of b c).answer))
  outcome_writable c =
      subst Writable (sym (ap (λ x. answer_in (of_call (outcome_of x c).answer)) (reachable_book b r) ∙ call_answered r.opening r.is_legal r.calls c))
      (answer_writable r.opening r.is_legal r.calls (call c))

  pub query_writable : (q : Query) → Writable (answer_in (of_query (query_answer_in b q)))
  query_writable q =
      subst Writable (sym (ap (λ x. answer_in (of_query (query_answer_in x q))) (reachable_book b r) ∙ query_answered r.opening r.is_legal r.calls q))
      (answer_writable r.opening r.is_legal r.calls (query q))
