-- The season theorem's proof: the books follow the ledger, and what the ledger keeps they keep. Assumes nothing.
use Prim.Native.Nat.{ℕ, ◌≤◌, ◌<◌}
use mathlib.Core.Path.{◌≡◌, sym, ap, ◌∙◌, subst}
use mathlib.Core.Bool.{true}
use mathlib.Core.List.{List}
use borrow.Author.Tests.{lt-leb}
use Rattle.std.specs.Prelude.{Ok}
use Rattle.tariff.specs.Sizes.{long_term_step}
use Rattle.tariff.specs.Terms.{is_month}
use Rattle.tariff.specs.Ranges.{month_out_of_range}
use Rattle.ledger.specs.Opening.{Opening, legal}
use Rattle.ledger.specs.Ledger.{Ledger}
use Rattle.ledger.specs.Ranges.{unknown_holder, unknown_path}
use Rattle.ledger.specs.Numbers.{first_met}
use Rattle.ledger.specs.Call.{Call, Query, held_on, net_on}
use Rattle.ledger.specs.Causes.{held_causes, net_causes, query_causes, query_refusal}
use Rattle.ledger.specs.Season as ledger
use Rattle.ledger.specs.Season.{query, after, net, query_value}
use Rattle.ledger.proofs.Conserved.{load_sum, rights_conserved_lem, load_conserved}
use Rattle.ledger.proofs.NeverBelowZero.{never_below_zero_lem}
use Rattle.ledger.proofs.Nominations.{nominations_within_limit}
use Rattle.ledger.proofs.Settled.{step_within_tier_1}
use Rattle.records.specs.Answers.{queried}
use Rattle.book.specs.SeasonTheorem.{calls_of, SeasonHolds, SeasonTheorem}
use Rattle.book.proofs.ReachableSteps.{book_at, at_opening, at_ledger, at_query}
use Rattle.book.proofs.SeasonAnswers.{last_book_lem, season_answered}

-- a query that meets no cause is answered with its figure
value_answered : (o : Opening) (L : Ledger) (q : Query) → query_refusal o L q ≡ 0 → queried (ledger.answer o L (query q)) ≡ Ok (query_value o L q)
unfolding ledger.answer queried
value_answered o L q e = rw e

held_accepted : (o : Opening) (L : Ledger) (h p m : ℕ) → h < o.holders → p < o.paths → is_month m ≡ true → query_refusal o L (held_on h p m) ≡ 0
unfolding query_refusal query_causes held_causes first_met unknown_holder unknown_path month_out_of_range
held_accepted o L h p m i j k = rw (lt-leb o.holders h i) (rw (lt-leb o.paths p j) (rw k))

net_accepted : (o : Opening) (L : Ledger) (p m : ℕ) → p < o.paths → is_month m ≡ true → query_refusal o L (net_on p m) ≡ 0
unfolding query_refusal query_causes net_causes first_met unknown_path month_out_of_range
net_accepted o L p m j k = rw (lt-leb o.paths p j) (rw k)

-- all of it, of the book of a list of calls
holds_at : (o : Opening) (e : legal o ≡ true) (cs : List Call) → SeasonHolds o cs (book_at o e cs)
unfolding query_value load_sum
holds_at o e cs =
    record {
      opening = at_opening o e cs;
      figures = at_ledger o e cs;
      held_answered = λ h p m i j k. at_query o e cs (held_on h p m) ∙ value_answered o (after o cs) (held_on h p m) (held_accepted o (after o cs) h p m i j k);
      net_answered = λ p m j k. at_query o e cs (net_on p m) ∙ value_answered o (after o cs) (net_on p m) (net_accepted o (after o cs) p m j k);
      rights_conserved = λ p m k. ap (λ L. net o L p m) (at_ledger o e cs) ∙ rights_conserved_lem o p m k cs;
      loads_conserved = λ s t. ap (load_sum o s t) (at_ledger o e cs) ∙ load_conserved o s t cs;
      never_below_zero = λ before later term sink lines split yes. never_below_zero_lem o before term sink lines yes;
      within_limit = λ before later tier split yes h b. nominations_within_limit o before later tier h b yes;
      step_within_tier1 = λ h p. subst (λ L. L.tiers.awards h p long_term_step ≤ L.tiers.awards h p 1) (sym (at_ledger o e cs)) (step_within_tier_1 o cs h p);
    }

pub season_theorem : SeasonTheorem
season_theorem =
    record {
      answered = season_answered;
      kept = λ o requests e. rw (last_book_lem o e requests) (holds_at o e (calls_of requests));
    }
