-- Rights and load are conserved over every list of calls: the holders' figures add up to what the accepted calls brought in. Assumes nothing.
use Prim.Native.Nat.{ℕ, ◌+◌, ◌<◌}
use mathlib.Core.Path.{◌≡◌, refl, sym, ap, ap₂, ◌∙◌}
use mathlib.Core.Bool.{Bool, true, not, ◌&&◌, and_assoc, and-true}
use mathlib.Core.List.{List}
use native.Mathlib.Nat.{add-zero}
use native.Mathlib.Omega.{arith}
use lib.Dec.{eqb}
use borrow.Author.Tests.{eqb-true}
use Rattle.tariff.specs.Sum.{when_true, sum_to}
use Rattle.load_metric.specs.Load.{load_posted}
use Rattle.tariff.specs.Terms.{term_of, is_month, has_month, entering_kw}
use Rattle.tariff.proofs.Sums.{sum_ext, sum_add, sum_zero}
use Rattle.tariff.proofs.Tests.{and_both}
use Rattle.ledger.specs.Opening.{Opening, has_base}
use Rattle.ledger.specs.Ledger.{Ledger, empty_ledger, with_loads, with_rights, with_priors, with_evidence, with_tiers}
use Rattle.ledger.specs.Call.{Call, load, carry, prior, verify, migrate, open_tier, nominate, award, close_tier}
use Rattle.ledger.specs.Migration.{transferred_where, load_before, loads_after, rights_after, migrated}
use Rattle.ledger.specs.Effects.{same2, same3, plus_at3, plus_in_term, after_load, after_carry, holdings_after, effect}
use Rattle.ledger.specs.Season.{after, held, net}
use Rattle.ledger.specs.Totals.{contribution, no_contribution, sum_accepted, carried_in, awarded_in, posted_in}
use Rattle.ledger.proofs.Steps.{Adds, list_adds}
use Rattle.ledger.proofs.Columns.{column_plus, column_kept, load_kept}
use Rattle.ledger.proofs.PostingFacts.{load_facts, carry_facts}
use Rattle.ledger.proofs.TierFacts.{migrate_facts, award_facts}

-- the holders' carried kW on a path in a month, their awarded kW there, and their loads at a sink and term
unfoldable pub carried_sum : Opening → ℕ → ℕ → Ledger → ℕ
carried_sum o p m L = sum_to o.holders (λ h. L.rights.carried h p m)

unfoldable pub awarded_sum : Opening → ℕ → ℕ → Ledger → ℕ
awarded_sum o p m L = sum_to o.holders (λ h. L.rights.awarded h p m)

unfoldable pub load_sum : Opening → ℕ → ℕ → Ledger → ℕ
load_sum o s t L = sum_to o.holders (λ h. L.loads.kw h s t)

-- kw added for one holder where two tests pass
for_one : (o : Opening) (x kw : ℕ) (v : ℕ → ℕ) (t u : Bool) → x < o.holders → sum_to o.holders (λ h. v h + when_true (eqb h x && t && u) kw) ≡ sum_to o.holders v + when_true (t && u) kw
for_one o x kw v t u l =
    sum_ext {f = λ h. v h + when_true (eqb h x && t && u) kw} {g = λ h. v h + when_true (eqb h x && (t && u)) kw} o.holders (λ h i. ap (λ b. v h + when_true b kw) (and_assoc (eqb h x) t u))
    ∙ column_plus v o.holders x (t && u) kw l

-- kw added for one holder and path in the months of a term
pub in_term_lem : (o : Opening) (term x q kw : ℕ) (f : ℕ → ℕ → ℕ → ℕ) (p m : ℕ) → x < o.holders → sum_to o.holders (λ h. plus_in_term term x q kw f h p m) ≡ sum_to o.holders (λ h. f h p m) + when_true (eqb p q && has_month term m) kw
unfolding plus_in_term same2
in_term_lem o term x q kw f p m l = for_one o x kw (λ h. f h p m) (eqb p q) (has_month term m) l

-- kw added in one place
pub in_place : (o : Opening) (x q term kw : ℕ) (f : ℕ → ℕ → ℕ → ℕ) (s t : ℕ) → x < o.holders → sum_to o.holders (λ h. plus_at3 x q term kw f h s t) ≡ sum_to o.holders (λ h. f h s t) + when_true (eqb s q && eqb t term) kw
unfolding plus_at3 same3
in_place o x q term kw f s t l = for_one o x kw (λ h. f h s t) (eqb s q) (eqb t term) l

-- a figure that is 0 in the empty ledger is what the accepted calls add to it
from_empty : (figure : Ledger → ℕ) (amount : Ledger → Call → ℕ) (o : Opening) → Adds figure amount o → figure empty_ledger ≡ 0 → (cs : List Call) → figure (after o cs) ≡ sum_accepted amount o empty_ledger cs
unfolding after
from_empty figure amount o adds none cs = let all = list_adds figure amount o adds empty_ledger cs in omega arith

module _ (o : Opening) (p m : ℕ) where
  pub awarded_adds : Adds (awarded_sum o p m) (λ L c. (contribution o L c).awarded p m) o
  unfolding awarded_sum contribution no_contribution effect with_loads with_rights with_priors with_evidence with_tiers migrated transferred_where rights_after after_carry holdings_after
  awarded_adds L (load h s term contract n blocks) e = omega arith
  awarded_adds L (carry h q kw) e = omega arith
  awarded_adds L (prior h q a l) e = omega arith
  awarded_adds L (verify h s kind capacity right first last mark) e = omega arith
  awarded_adds L (migrate term sink lines) e =
      column_kept o L term sink lines (migrate_facts o L term sink lines e).fits (has_base o sink p && has_month term m && not (eqb term 0)) (λ h. L.rights.awarded h p m)
      ∙ sym (add-zero (sum_to o.holders (λ h. L.rights.awarded h p m)))
  awarded_adds L (open_tier tier) e = omega arith
  awarded_adds L (nominate h q kw) e = omega arith
  awarded_adds L (award h q kw) e = in_term_lem o (term_of L.tiers.current_tier) h q (entering_kw L.tiers.current_tier kw) L.rights.awarded p m (award_facts o L h q kw e).holder
  awarded_adds L close_tier e = omega arith

  -- per path and month the awarded kW add up to the accepted awards in tiers 1 to 3 and in the month's own; the step's are left out
  pub awarded_conserved : (cs : List Call) → awarded_sum o p m (after o cs) ≡ awarded_in o cs p m
  unfolding awarded_in awarded_sum empty_ledger
  awarded_conserved = from_empty (awarded_sum o p m) (λ L c. (contribution o L c).awarded p m) o awarded_adds (sum_zero o.holders (λ h l. refl))

  pub carried_adds : is_month m ≡ true → Adds (carried_sum o p m) (λ L c. (contribution o L c).carried p) o
  unfolding carried_sum contribution no_contribution effect with_loads with_rights with_priors with_evidence with_tiers migrated transferred_where rights_after after_carry holdings_after has_month
  carried_adds month L (load h s term contract n blocks) e = omega arith
  carried_adds month L (carry h q kw) e =
      in_term_lem o 0 h q kw L.rights.carried p m (carry_facts o L h q kw e).holder
      ∙ ap (λ b. sum_to o.holders (λ h. L.rights.carried h p m) + when_true b kw) (ap (λ b. eqb p q && (b && true)) month ∙ and-true (eqb p q))
  carried_adds month L (prior h q a l) e = omega arith
  carried_adds month L (verify h s kind capacity right first last mark) e = omega arith
  carried_adds month L (migrate term sink lines) e =
      column_kept o L term sink lines (migrate_facts o L term sink lines e).fits (has_base o sink p && has_month term m) (λ h. L.rights.carried h p m)
      ∙ sym (add-zero (sum_to o.holders (λ h. L.rights.carried h p m)))
  carried_adds month L (open_tier tier) e = omega arith
  carried_adds month L (nominate h q kw) e = omega arith
  carried_adds month L (award h q kw) e = omega arith
  carried_adds month L close_tier e = omega arith

  -- per path and month the carried kW add up to the accepted carry calls
  pub carried_conserved : is_month m ≡ true → (cs : List Call) → carried_sum o p m (after o cs) ≡ carried_in o cs p
  unfolding carried_in carried_sum empty_ledger
  carried_conserved month = from_empty (carried_sum o p m) (λ L c. (contribution o L c).carried p) o (carried_adds month) (sum_zero o.holders (λ h l. refl))

  -- rights are conserved: what the holders hold on a path in a month is what was carried in and awarded
  pub rights_conserved_lem : is_month m ≡ true → (cs : List Call) → net o (after o cs) p m ≡ carried_in o cs p + awarded_in o cs p m
  unfolding net held carried_sum awarded_sum
  rights_conserved_lem month cs =
      sum_add (λ h. (after o cs).rights.carried h p m) (λ h. (after o cs).rights.awarded h p m) o.holders
      ∙ ap₂ (λ a b. a + b) (carried_conserved month cs) (awarded_conserved cs)

module _ (o : Opening) (s t : ℕ) where
  pub load_adds : Adds (load_sum o s t) (λ L c. (contribution o L c).posted s t) o
  unfolding load_sum contribution no_contribution effect with_loads with_rights with_priors with_evidence with_tiers migrated transferred_where loads_after after_load load_before
  load_adds L (load h q term contract n blocks) e = in_place o h q term (load_posted o.settings contract blocks) L.loads.kw s t (load_facts o L h q term contract n blocks e).holder
  load_adds L (carry h q kw) e = omega arith
  load_adds L (prior h q a l) e = omega arith
  load_adds L (verify h q kind capacity right first last mark) e = omega arith
  load_adds L (migrate term sink lines) e =
      load_kept o L term sink lines (migrate_facts o L term sink lines e).fits (eqb s sink && eqb t term) (λ h. L.loads.kw h s t) there
      ∙ sym (add-zero (sum_to o.holders (λ h. L.loads.kw h s t)))
    where
      there : (h : ℕ) → (eqb s sink && eqb t term) ≡ true → L.loads.kw h s t ≡ load_before L term sink h
      there h q = let both = and_both (eqb s sink) (eqb t term) q in ap₂ (L.loads.kw h) (eqb-true s sink both.0) (eqb-true t term both.1)
  load_adds L (open_tier tier) e = omega arith
  load_adds L (nominate h q kw) e = omega arith
  load_adds L (award h q kw) e = omega arith
  load_adds L close_tier e = omega arith

  -- load is conserved: per sink and term the loads add up to what the accepted load calls posted
  pub load_conserved : (cs : List Call) → load_sum o s t (after o cs) ≡ posted_in o cs s t
  unfolding posted_in load_sum empty_ledger
  load_conserved = from_empty (load_sum o s t) (λ L c. (contribution o L c).posted s t) o load_adds (sum_zero o.holders (λ h l. refl))
