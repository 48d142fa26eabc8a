-- What an accepted call does to the ledger (01, The plain ledger; 02, 1/14).
use Rattle.std.specs.Prelude.{ℕ, ◌+◌, ◌-◌, Bool, cond, ◌&&◌, ◌||◌, eqb}
use Rattle.source_evidence.specs.declared.evidence.Entry.{Entry}
use Rattle.tariff.specs.Sum.{when_true}
use Rattle.load_metric.specs.Load.{load_posted}
use Rattle.tariff.specs.Terms.{term_of, has_month, is_long_term_step, entering_kw}
use Rattle.source_evidence.specs.Evidence.{entry_of}
use Rattle.ledger.specs.Opening.{Opening}
use Rattle.ledger.specs.Call.{Call, load, carry, prior, verify, migrate, open_tier, nominate, award, close_tier}
use Rattle.ledger.specs.Ledger.{Ledger, Loads, Rights, Priors, EvidenceRecord, Tiers, with_loads, with_rights, with_priors, with_evidence, with_tiers}
use Rattle.ledger.specs.Migration.{migrated}

-- the same two, or three, numbers
unfoldable pub same2 : ℕ → ℕ → ℕ → ℕ → Bool
same2 i j x y = eqb x i && eqb y j

unfoldable pub same3 : ℕ → ℕ → ℕ → ℕ → ℕ → ℕ → Bool
same3 i j k x y z = eqb x i && eqb y j && eqb z k

-- figures with kw added in one place
unfoldable pub plus_at2 : ℕ → ℕ → ℕ → (ℕ → ℕ → ℕ) → ℕ → ℕ → ℕ
plus_at2 i j kw f x y = f x y + when_true (same2 i j x y) kw

unfoldable pub plus_at3 : ℕ → ℕ → ℕ → ℕ → (ℕ → ℕ → ℕ → ℕ) → ℕ → ℕ → ℕ → ℕ
plus_at3 i j k kw f x y z = f x y z + when_true (same3 i j k x y z) kw

-- holdings with kw added for a holder and path, in each month of a term
unfoldable pub plus_in_term : ℕ → ℕ → ℕ → ℕ → (ℕ → ℕ → ℕ → ℕ) → ℕ → ℕ → ℕ → ℕ
plus_in_term term h p kw f x y m = f x y m + when_true (same2 h p x y && has_month term m) kw

-- load adds the load posted
unfoldable pub after_load : Loads → ℕ → ℕ → ℕ → ℕ → Loads
after_load x h s term kw =
    record {
      kw = plus_at3 h s term kw x.kw;
      posted = λ i j k. same3 h s term i j k || x.posted i j k;
    }

-- carry adds its kW in each month
unfoldable pub after_carry : Rights → ℕ → ℕ → ℕ → Rights
after_carry x h p kw =
    record {
      carried = plus_in_term 0 h p kw x.carried;
      awarded = x.awarded;
      posted = λ i j. same2 h p i j || x.posted i j;
    }

-- prior adds its a and its a − l
unfoldable pub after_prior : Priors → ℕ → ℕ → ℕ → ℕ → Priors
after_prior x h p a l =
    record {
      allocated = plus_at2 h p a x.allocated;
      remaining = plus_at2 h p (a - l) x.remaining;
      posted = λ i j. same2 h p i j || x.posted i j;
    }

-- verify files its entry
unfoldable pub after_verify : EvidenceRecord → ℕ → ℕ → ℕ → Entry → EvidenceRecord
after_verify x h s kind filed =
    record {
      entry = λ i j k. cond (same3 h s kind i j k) filed (x.entry i j k);
      posted = λ i j k. same3 h s kind i j k || x.posted i j k;
    }

-- open notes the tier, and the Long Term step as held
unfoldable pub after_open : Tiers → ℕ → Tiers
after_open x tier =
    record {
      nominated = x.nominated;
      awards = x.awards;
      last_closed = x.last_closed;
      current_tier = tier;
      step_held = is_long_term_step tier || x.step_held;
    }

-- nominate adds its kW in the open tier
unfoldable pub after_nominate : Tiers → ℕ → ℕ → ℕ → Tiers
after_nominate x h p kw =
    record {
      nominated = plus_at3 h p x.current_tier kw x.nominated;
      awards = x.awards;
      last_closed = x.last_closed;
      current_tier = x.current_tier;
      step_held = x.step_held;
    }

-- award adds its kW to the open tier's awards ..
unfoldable pub awards_after : Tiers → ℕ → ℕ → ℕ → Tiers
awards_after x h p kw =
    record {
      nominated = x.nominated;
      awards = plus_at3 h p x.current_tier kw x.awards;
      last_closed = x.last_closed;
      current_tier = x.current_tier;
      step_held = x.step_held;
    }

-- .. and to the awarded holding of the tier's month, or of all three; the Long Term step's award enters none
unfoldable pub holdings_after : Rights → ℕ → ℕ → ℕ → ℕ → Rights
holdings_after x tier h p kw =
    record {
      carried = x.carried;
      awarded = plus_in_term (term_of tier) h p (entering_kw tier kw) x.awarded;
      posted = x.posted;
    }

-- close puts the open tier's nominated kW down to the awarded and notes the tier closed; the Long Term step does not count as last closed
unfoldable pub after_close : Tiers → Tiers
after_close x =
    record {
      nominated = λ h p t. cond (eqb t x.current_tier) (x.awards h p t) (x.nominated h p t);
      awards = x.awards;
      last_closed = cond (is_long_term_step x.current_tier) x.last_closed x.current_tier;
      current_tier = 0;
      step_held = x.step_held;
    }

-- the ledger after an accepted call
unfoldable pub effect : Opening → Ledger → Call → Ledger
effect o L (load h s term contract n blocks) = with_loads L (after_load L.loads h s term (load_posted o.settings contract blocks))
effect o L (carry h p kw) = with_rights L (after_carry L.rights h p kw)
effect o L (prior h p a l) = with_priors L (after_prior L.priors h p a l)
effect o L (verify h s kind capacity right first last mark) =
    with_evidence L (after_verify L.evidence h s kind (entry_of kind capacity right first last mark))
effect o L (migrate term sink lines) = migrated o L term sink lines
effect o L (open_tier tier) = with_tiers L (after_open L.tiers tier)
effect o L (nominate h p kw) = with_tiers L (after_nominate L.tiers h p kw)
effect o L (award h p kw) = with_tiers (with_rights L (holdings_after L.rights L.tiers.current_tier h p kw)) (awards_after L.tiers h p kw)
effect o L close_tier = with_tiers L (after_close L.tiers)
