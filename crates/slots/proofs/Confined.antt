-- Every figure of a ledger that calls lead to has its slot in a book. Assumes nothing.
use Prim.Native.Nat.{ℕ, ◌-◌, ◌≤◌, ◌<◌, zero-le}
use mathlib.Core.Path.{◌≡◌, refl, ap, ◌∙◌}
use mathlib.Core.Bool.{Bool, true, false, cond, not, ◌&&◌}
use mathlib.Core.List.{List}
use native.Mathlib.Nat.{le_trans}
use native.Mathlib.Omega.{arith}
use lib.Dec.{eqb}
use Rattle.load_metric.specs.Load.{load_posted}
use Rattle.tariff.specs.Terms.{term_of, has_month, entering_kw}
use Rattle.source_evidence.specs.Evidence.{empty_entry, entry_of}
use Rattle.tariff.specs.Sizes.{last_month, terms, evidence_kinds}
use Rattle.ledger.specs.Opening.{Opening, legal, has_base}
use Rattle.ledger.specs.Ledger.{Ledger, Loads, Rights, Priors, EvidenceRecord, Tiers, empty_ledger, with_loads, with_rights, with_priors, with_evidence, with_tiers}
use Rattle.ledger.specs.Call.{Call, load, carry, prior, verify, migrate, open_tier, nominate, award, close_tier}
use Rattle.ledger.specs.Migration.{transferred_where, loads_after, rights_after, priors_after, migrated}
use Rattle.ledger.specs.Effects.{after_load, after_carry, after_prior, after_verify, after_open, after_nominate, awards_after, holdings_after, after_close, effect}
use Rattle.ledger.specs.Season.{accepted, step, after}
use Rattle.ledger.proofs.Steps.{step_keeps, after_keeps}
use Rattle.ledger.proofs.Bounds.{legal_counts}
use Rattle.ledger.proofs.PostingFacts.{load_facts, carry_facts, prior_facts, verify_facts}
use Rattle.ledger.proofs.TierFacts.{migrate_facts, nominate_facts, award_facts}
use Rattle.ledger.proofs.TiersSound.{TiersSound, sound_step, sound_empty}
use Rattle.slots.specs.Groups.{in_group}
use Rattle.slots.specs.Layout.{tier_slots}
use Rattle.slots.proofs.GroupLaws.{in_group_lem}
use Rattle.slots.proofs.Inside.{Inside, Inside2, not_there, added_inside, added_inside2, posted_inside, posted_inside2, term_inside}
use Rattle.slots.proofs.MigrationInside.{column_inside, loads_inside}

pub record LoadsInside (x : Loads) : Type 0 where
  pub kw : Inside terms 0 0 x.kw
  pub posted : Inside terms 0 false x.posted

pub record RightsInside (x : Rights) : Type 0 where
  pub carried : Inside last_month 1 0 x.carried
  pub awarded : Inside last_month 1 0 x.awarded
  pub posted : Inside2 false x.posted

pub record PriorsInside (x : Priors) : Type 0 where
  pub allocated : Inside2 0 x.allocated
  pub remaining : Inside2 0 x.remaining
  pub posted : Inside2 false x.posted

pub record EvidenceInside (x : EvidenceRecord) : Type 0 where
  pub entry : Inside evidence_kinds 1 empty_entry x.entry
  pub posted : Inside evidence_kinds 1 false x.posted

pub record TiersInside (x : Tiers) : Type 0 where
  pub nominated : Inside tier_slots 0 0 x.nominated
  pub awards : Inside tier_slots 0 0 x.awards

pub record Confined (L : Ledger) : Type 0 where
  pub sound : TiersSound L.tiers
  pub loads : LoadsInside L.loads
  pub rights : RightsInside L.rights
  pub priors : PriorsInside L.priors
  pub evidence : EvidenceInside L.evidence
  pub tiers : TiersInside L.tiers

module _ (o : Opening) (ok : legal o ≡ true) (L : Ledger) (k : Confined L) where
  counts : (o.holders ≤ 8) × (o.sources ≤ 16) × (o.sinks ≤ 16) × (o.paths ≤ 16)
  counts = legal_counts o ok

  -- a holder and a path of the book have a slot
  two-cell : (h p : ℕ) → h < o.holders → p < o.paths → in_group 1 0 h p 0 ≡ true
  two-cell h p a b = in_group_lem 1 0 h p 0 (le_trans a counts.0) (le_trans b counts.3) zero-le (omega arith)

  in-loads : (c : Call) → accepted o L c ≡ true → LoadsInside (effect o L c).loads
  unfolding effect with_loads with_rights with_priors with_evidence with_tiers migrated transferred_where loads_after after_load
  in-loads (load h s term contract n blocks) e =
      let f = load_facts o L h s term contract n blocks e in
      let there = in_group_lem terms 0 h s term (le_trans f.holder counts.0) (le_trans f.sink counts.2) zero-le (let t = f.term_in_range in omega arith) in
      record { kw = added_inside terms 0 h s term (load_posted o.settings contract blocks) L.loads.kw there k.loads.kw; posted = posted_inside terms 0 h s term L.loads.posted there k.loads.posted }
  in-loads (carry h p kw) e = k.loads
  in-loads (prior h p a l) e = k.loads
  in-loads (verify h s kind capacity right first last mark) e = k.loads
  in-loads (migrate term sink lines) e = record { kw = loads_inside o L term sink lines counts.0 (migrate_facts o L term sink lines e) counts.2 k.loads.kw; posted = k.loads.posted }
  in-loads (open_tier tier) e = k.loads
  in-loads (nominate h p kw) e = k.loads
  in-loads (award h p kw) e = k.loads
  in-loads close_tier e = k.loads

  in-rights : (c : Call) → accepted o L c ≡ true → RightsInside (effect o L c).rights
  unfolding effect with_loads with_rights with_priors with_evidence with_tiers migrated transferred_where rights_after after_carry holdings_after
  in-rights (load h s term contract n blocks) e = k.rights
  in-rights (carry h p kw) e =
      let f = carry_facts o L h p kw e in
      record {
        carried = term_inside 0 h p kw L.rights.carried (le_trans f.holder counts.0) (le_trans f.path counts.3) k.rights.carried;
        awarded = k.rights.awarded;
        posted = posted_inside2 h p L.rights.posted (two-cell h p f.holder f.path) k.rights.posted;
      }
  in-rights (prior h p a l) e = k.rights
  in-rights (verify h s kind capacity right first last mark) e = k.rights
  in-rights (migrate term sink lines) e =
      let f = migrate_facts o L term sink lines e in
      record {
        carried = λ h p m. column_inside o L term sink lines counts.0 f last_month 1 p m (has_base o sink p && has_month term m) (λ i. L.rights.carried i p m) (λ j. k.rights.carried j p m) h;
        awarded = λ h p m. column_inside o L term sink lines counts.0 f last_month 1 p m (has_base o sink p && has_month term m && not (eqb term 0)) (λ i. L.rights.awarded i p m) (λ j. k.rights.awarded j p m) h;
        posted = k.rights.posted;
      }
  in-rights (open_tier tier) e = k.rights
  in-rights (nominate h p kw) e = k.rights
  in-rights (award h p kw) e =
      let f = award_facts o L h p kw e in
      record {
        carried = k.rights.carried;
        awarded = term_inside (term_of L.tiers.current_tier) h p (entering_kw L.tiers.current_tier kw) L.rights.awarded (le_trans f.holder counts.0) (le_trans f.path counts.3) k.rights.awarded;
        posted = k.rights.posted;
      }
  in-rights close_tier e = k.rights

  in-priors : (c : Call) → accepted o L c ≡ true → PriorsInside (effect o L c).priors
  unfolding effect with_loads with_rights with_priors with_evidence with_tiers migrated priors_after after_prior
  in-priors (load h s term contract n blocks) e = k.priors
  in-priors (carry h p kw) e = k.priors
  in-priors (prior h p a l) e =
      let f = prior_facts o L h p a l e in
      let there = two-cell h p f.holder f.path in
      record {
        allocated = added_inside2 h p a L.priors.allocated there k.priors.allocated;
        remaining = added_inside2 h p (a - l) L.priors.remaining there k.priors.remaining;
        posted = posted_inside2 h p L.priors.posted there k.priors.posted;
      }
  in-priors (verify h s kind capacity right first last mark) e = k.priors
  in-priors (migrate term sink lines) e =
      let f = migrate_facts o L term sink lines e in
      record {
        allocated = λ h p. column_inside o L term sink lines counts.0 f 1 0 p 0 (has_base o sink p && eqb term 0) (λ i. L.priors.allocated i p) (λ j. k.priors.allocated j p) h;
        remaining = λ h p. column_inside o L term sink lines counts.0 f 1 0 p 0 (has_base o sink p && eqb term 0) (λ i. L.priors.remaining i p) (λ j. k.priors.remaining j p) h;
        posted = k.priors.posted;
      }
  in-priors (open_tier tier) e = k.priors
  in-priors (nominate h p kw) e = k.priors
  in-priors (award h p kw) e = k.priors
  in-priors close_tier e = k.priors

  in-evidence : (c : Call) → accepted o L c ≡ true → EvidenceInside (effect o L c).evidence
  unfolding effect with_loads with_rights with_priors with_evidence with_tiers migrated after_verify
  in-evidence (load h s term contract n blocks) e = k.evidence
  in-evidence (carry h p kw) e = k.evidence
  in-evidence (prior h p a l) e = k.evidence
  in-evidence (verify h s kind capacity right first last mark) e =
      let f = verify_facts o L h s kind capacity right first last mark e in
      let there = in_group_lem evidence_kinds 1 h s kind (le_trans f.holder counts.0) (le_trans f.source counts.1) f.kinds.0 (let t = f.kinds.1 in omega arith) in
      record {
        entry = λ i j m none. ap (λ t. cond t (entry_of kind capacity right first last mark) (L.evidence.entry i j m)) (not_there evidence_kinds 1 h s kind i j m there none) ∙ k.evidence.entry i j m none;
        posted = posted_inside evidence_kinds 1 h s kind L.evidence.posted there k.evidence.posted;
      }
  in-evidence (migrate term sink lines) e = k.evidence
  in-evidence (open_tier tier) e = k.evidence
  in-evidence (nominate h p kw) e = k.evidence
  in-evidence (award h p kw) e = k.evidence
  in-evidence close_tier e = k.evidence

  tier-cell : (h p : ℕ) → h < o.holders → p < o.paths → in_group tier_slots 0 h p L.tiers.current_tier ≡ true
  tier-cell h p a b = in_group_lem tier_slots 0 h p L.tiers.current_tier (le_trans a counts.0) (le_trans b counts.3) zero-le (let t = k.sound.open_last in omega arith)

  in-tiers : (c : Call) → accepted o L c ≡ true → TiersInside (effect o L c).tiers
  unfolding effect with_loads with_rights with_priors with_evidence with_tiers migrated after_open after_nominate awards_after after_close
  in-tiers (load h s term contract n blocks) e = k.tiers
  in-tiers (carry h p kw) e = k.tiers
  in-tiers (prior h p a l) e = k.tiers
  in-tiers (verify h s kind capacity right first last mark) e = k.tiers
  in-tiers (migrate term sink lines) e = k.tiers
  in-tiers (open_tier tier) e = record { nominated = k.tiers.nominated; awards = k.tiers.awards }
  in-tiers (nominate h p kw) e =
      let f = nominate_facts o L h p kw e in
      record { nominated = added_inside tier_slots 0 h p L.tiers.current_tier kw L.tiers.nominated (tier-cell h p f.holder f.path) k.tiers.nominated; awards = k.tiers.awards }
  in-tiers (award h p kw) e =
      let f = award_facts o L h p kw e in
      record { nominated = k.tiers.nominated; awards = added_inside tier_slots 0 h p L.tiers.current_tier kw L.tiers.awards (tier-cell h p f.holder f.path) k.tiers.awards }
  in-tiers close_tier e = record { nominated = λ h p t none. closed h p t none (eqb t L.tiers.current_tier); awards = k.tiers.awards }
    where
      closed : (h p t : ℕ) → in_group tier_slots 0 h p t ≡ false → (b : Bool) → cond b (L.tiers.awards h p t) (L.tiers.nominated h p t) ≡ 0
      closed h p t none true = k.tiers.awards h p t none
      closed h p t none false = k.tiers.nominated h p t none

confined_step : (o : Opening) → legal o ≡ true → (L : Ledger) (c : Call) → Confined L → Confined (step o L c)
confined_step o ok L c k =
    record {
      sound = sound_step o L c k.sound;
      loads = step_keeps (λ l. LoadsInside l.loads) o L c k.loads (in-loads o ok L k c);
      rights = step_keeps (λ l. RightsInside l.rights) o L c k.rights (in-rights o ok L k c);
      priors = step_keeps (λ l. PriorsInside l.priors) o L c k.priors (in-priors o ok L k c);
      evidence = step_keeps (λ l. EvidenceInside l.evidence) o L c k.evidence (in-evidence o ok L k c);
      tiers = step_keeps (λ l. TiersInside l.tiers) o L c k.tiers (in-tiers o ok L k c);
    }

confined_empty : Confined empty_ledger
unfolding empty_ledger
confined_empty =
    record {
      sound = sound_empty;
      loads = record { kw = λ h s t none. refl; posted = λ h s t none. refl };
      rights = record { carried = λ h p m none. refl; awarded = λ h p m none. refl; posted = λ h p none. refl };
      priors = record { allocated = λ h p none. refl; remaining = λ h p none. refl; posted = λ h p none. refl };
      evidence = record { entry = λ h s m none. refl; posted = λ h s m none. refl };
      tiers = record { nominated = λ h p t none. refl; awards = λ h p t none. refl };
    }

-- after every list of calls from a legal opening
pub confined : (o : Opening) → legal o ≡ true → (cs : List Call) → Confined (after o cs)
confined o ok cs = after_keeps Confined o (confined_step o ok) confined_empty cs
