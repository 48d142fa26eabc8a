-- Loads, carried holdings and prior records are bounded in every ledger that calls lead to, since each is posted once. Assumes nothing.
use Prim.Native.Nat.{ℕ, ◌+◌, ◌-◌, ◌≤◌, zero-le}
use mathlib.Core.Path.{◌≡◌, refl, ap, ◌∙◌}
use mathlib.Core.Bool.{true, ◌&&◌, ◌||◌, and_assoc}
use mathlib.Core.List.{List}
use native.Mathlib.Nat.{le_trans, le_of_eq, sub-le}
use lib.Dec.{eqb}
use borrow.Author.Tests.{eqb-true}
use Rattle.tariff.specs.Sum.{when_true}
use Rattle.netting.specs.declared.netting.ClassLine.{ClassLine}
use Rattle.load_metric.specs.declared.block.Block.{Block}
use Rattle.load_metric.specs.Load.{load_posted}
use Rattle.tariff.specs.Terms.{has_month}
use Rattle.tariff.proofs.Sums.{sum_le}
use Rattle.tariff.proofs.Tests.{and_both}
use Rattle.load_metric.proofs.Metric.{posted_le}
use Rattle.ledger.specs.Opening.{Opening, has_base}
use Rattle.ledger.specs.Ledger.{Ledger, Loads, Rights, Priors, empty_ledger, with_loads, with_rights, with_priors, with_evidence, with_tiers}
use Rattle.ledger.specs.Call.{Call, load, carry, prior, verify, migrate, open_tier, nominate, award, close_tier}
use Rattle.ledger.specs.Migration.{transferred_where, load_before, loads_after, rights_after, priors_after, migrated}
use Rattle.tariff.specs.Ranges.{max_kw}
use Rattle.ledger.specs.Effects.{same2, same3, plus_at2, plus_at3, plus_in_term, after_load, after_carry, after_prior, holdings_after, effect}
use Rattle.ledger.specs.Season.{accepted, step}
use Rattle.ledger.proofs.Steps.{step_keeps}
use Rattle.ledger.proofs.Columns.{column_kept, load_kept}
use Rattle.ledger.proofs.Once.{Once, once_post}
use Rattle.ledger.proofs.PostingFacts.{load_facts, carry_facts, prior_facts}
use Rattle.ledger.proofs.TierFacts.{migrate_facts}

-- each column is at most the most kW for each holder that has posted there
pub record OnceIn (o : Opening) (loads : Loads) (rights : Rights) (priors : Priors) : Type 0 where
  pub load_column : (s t : ℕ) → Once o.holders (λ h. loads.kw h s t) (λ h. loads.posted h s t)
  pub carried_column : (p m : ℕ) → Once o.holders (λ h. rights.carried h p m) (λ h. rights.posted h p)
  pub allocated_column : (p : ℕ) → Once o.holders (λ h. priors.allocated h p) (λ h. priors.posted h p)
  pub remaining_column : (p : ℕ) → Once o.holders (λ h. priors.remaining h p) (λ h. priors.posted h p)

abbrev pub PostedOnce : Opening → Ledger → Type 0
PostedOnce o L = OnceIn o L.loads L.rights L.priors

once_load : (o : Opening) (L : Ledger) (x q term contract n : ℕ) (blocks : List Block) → PostedOnce o L → accepted o L (load x q term contract n blocks) ≡ true → PostedOnce o (effect o L (load x q term contract n blocks))
unfolding effect with_loads after_load plus_at3 same3
once_load o L x q term contract n blocks k e =
    let f = load_facts o L x q term contract n blocks e in
    record {
      load_column =
          λ s t.
          once_post o.holders x (load_posted o.settings contract blocks) (eqb s q && eqb t term) (eqb s q && eqb t term) (λ h. L.loads.kw h s t) (λ h. L.loads.posted h s t) (λ h. eqb h x && eqb s q && eqb t term) (λ h. eqb h x && eqb s q && eqb t term) (λ h. and_assoc (eqb h x) (eqb s q) (eqb t term)) (λ h. and_assoc (eqb h x) (eqb s q) (eqb t term)) f.holder (posted_le o.settings max_kw contract blocks f.block_kw) (λ w. w) (λ w. let both = and_both (eqb s q) (eqb t term) w in (λ i. L.loads.posted x (eqb-true s q both.0 i) (eqb-true t term both.1 i)) ∙ f.new) (k.load_column s t);
      carried_column = k.carried_column;
      allocated_column = k.allocated_column;
      remaining_column = k.remaining_column;
    }

once_carry : (o : Opening) (L : Ledger) (x q kw : ℕ) → PostedOnce o L → accepted o L (carry x q kw) ≡ true → PostedOnce o (effect o L (carry x q kw))
unfolding effect with_rights after_carry plus_in_term same2
once_carry o L x q kw k e =
    let f = carry_facts o L x q kw e in
    record {
      load_column = k.load_column;
      carried_column =
          λ p m.
          once_post o.holders x kw (eqb p q && has_month 0 m) (eqb p q) (λ h. L.rights.carried h p m) (λ h. L.rights.posted h p) (λ h. eqb h x && eqb p q && has_month 0 m) (λ h. eqb h x && eqb p q) (λ h. and_assoc (eqb h x) (eqb p q) (has_month 0 m)) (λ h. refl) f.holder f.high (λ w. (and_both (eqb p q) (has_month 0 m) w).0) (λ w. ap (L.rights.posted x) (eqb-true p q w) ∙ f.new) (k.carried_column p m);
      allocated_column = k.allocated_column;
      remaining_column = k.remaining_column;
    }

once_prior : (o : Opening) (L : Ledger) (x q a l : ℕ) → PostedOnce o L → accepted o L (prior x q a l) ≡ true → PostedOnce o (effect o L (prior x q a l))
unfolding effect with_priors after_prior plus_at2 same2
once_prior o L x q a l k e =
    let f = prior_facts o L x q a l e in
    record {
      load_column = k.load_column;
      carried_column = k.carried_column;
      allocated_column = λ p. column p L.priors.allocated a f.high (k.allocated_column p);
      remaining_column = λ p. column p L.priors.remaining (a - l) (le_trans (sub-le a l) f.high) (k.remaining_column p);
    }
  where
    column : (p : ℕ) (v : ℕ → ℕ → ℕ) (kw : ℕ) → kw ≤ max_kw → Once o.holders (λ h. v h p) (λ h. L.priors.posted h p) → Once o.holders (λ h. v h p + when_true (eqb h x && eqb p q) kw) (λ h. (eqb h x && eqb p q) || L.priors.posted h p)
    column p v kw high old =
        let f = prior_facts o L x q a l e in
        once_post o.holders x kw (eqb p q) (eqb p q) (λ h. v h p) (λ h. L.priors.posted h p) (λ h. eqb h x && eqb p q) (λ h. eqb h x && eqb p q) (λ h. refl) (λ h. refl) f.holder high (λ w. w) (λ w. ap (L.priors.posted x) (eqb-true p q w) ∙ f.new) old

once_migrate : (o : Opening) (L : Ledger) (term sink : ℕ) (lines : List ClassLine) → PostedOnce o L → accepted o L (migrate term sink lines) ≡ true → PostedOnce o (effect o L (migrate term sink lines))
unfolding effect migrated transferred_where loads_after rights_after priors_after load_before
once_migrate o L term sink lines k e =
    let fits = (migrate_facts o L term sink lines e).fits in
    record {
      load_column =
          λ s t.
          le_trans (le_of_eq (load_kept o L term sink lines fits (eqb s sink && eqb t term) (λ h. L.loads.kw h s t) (λ h w. let both = and_both (eqb s sink) (eqb t term) w in λ i. L.loads.kw h (eqb-true s sink both.0 i) (eqb-true t term both.1 i))))
          (k.load_column s t);
      carried_column = λ p m. le_trans (le_of_eq (column_kept o L term sink lines fits (has_base o sink p && has_month term m) (λ h. L.rights.carried h p m))) (k.carried_column p m);
      allocated_column = λ p. le_trans (le_of_eq (column_kept o L term sink lines fits (has_base o sink p && eqb term 0) (λ h. L.priors.allocated h p))) (k.allocated_column p);
      remaining_column = λ p. le_trans (le_of_eq (column_kept o L term sink lines fits (has_base o sink p && eqb term 0) (λ h. L.priors.remaining h p))) (k.remaining_column p);
    }

pub once_effect : (o : Opening) (L : Ledger) (c : Call) → PostedOnce o L → accepted o L c ≡ true → PostedOnce o (effect o L c)
unfolding effect with_evidence with_tiers with_rights holdings_after
once_effect o L (load h s term contract n blocks) k e = once_load o L h s term contract n blocks k e
once_effect o L (carry h p kw) k e = once_carry o L h p kw k e
once_effect o L (prior h p a l) k e = once_prior o L h p a l k e
once_effect o L (verify h s kind capacity right first last mark) k e = k
once_effect o L (migrate term sink lines) k e = once_migrate o L term sink lines k e
once_effect o L (open_tier tier) k e = k
once_effect o L (nominate h p kw) k e = k
once_effect o L (award h p kw) k e = record { load_column = k.load_column; carried_column = k.carried_column; allocated_column = k.allocated_column; remaining_column = k.remaining_column }
once_effect o L close_tier k e = k

pub once_step : (o : Opening) (L : Ledger) (c : Call) → PostedOnce o L → PostedOnce o (step o L c)
once_step o L c k = step_keeps (PostedOnce o) o L c k (once_effect o L c k)

pub once_empty : (o : Opening) → PostedOnce o empty_ledger
unfolding empty_ledger
once_empty o =
    record {
      load_column = λ s t. sum_le o.holders (λ h l. zero-le);
      carried_column = λ p m. sum_le o.holders (λ h l. zero-le);
      allocated_column = λ p. sum_le o.holders (λ h l. zero-le);
      remaining_column = λ p. sum_le o.holders (λ h l. zero-le);
    }
