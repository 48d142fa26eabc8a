-- Number 19 takes the place of 11 where a source has no evidence, and changes nothing else: a source without evidence has 0 kW verified, and a nomination is
-- of 1 kW or more. Assumes nothing.
use Prim.Native.Nat.{ℕ, ◌+◌, ◌≤◌, ◌<◌}
use mathlib.Core.Path.{◌≡◌, refl, sym, ap, ap₂, ◌∙◌}
use mathlib.Core.Bool.{Bool, true, false, cond, not, ◌&&◌}
use mathlib.Core.List.{List, [], ◌∷◌}
use mathlib.Core.Logic.{◌⊎◌, inl, inr}
use native.Mathlib.Omega.{arith}
use lib.Dec.{eqb}
use borrow.Author.Tests.{lt-ltb, not-true}
use Rattle.tariff.specs.Sizes.{ownership, contract}
use Rattle.source_evidence.specs.Evidence.{counts_for, entry_kw}
use Rattle.tariff.specs.Ranges.{kw_out_of_range}
use Rattle.tariff.specs.Terms.{term_of}
use Rattle.tariff.proofs.Sums.{when_is_false}
use Rattle.tariff.proofs.Tests.{or_unmet, and_both}
use Rattle.ledger.specs.Opening.{Opening, path_source}
use Rattle.ledger.specs.Ledger.{Ledger, empty_ledger}
use Rattle.ledger.specs.Call.{Call, load, carry, prior, verify, migrate, open_tier, nominate, award, close_tier}
use Rattle.ledger.specs.Numbers.{not_in_book, out_of_range, not_at_this_time, sink_ineligible, above_verified, unverified, Cause, cause, first_met}
use Rattle.ledger.specs.Verification.{has_evidence, verified_kw, source_usage}
use Rattle.ledger.specs.Causes.{needs_verification, lacks_evidence, exceeds_verified, load_causes, carry_causes, prior_causes, verify_causes, migrate_causes, open_causes, nominate_causes, award_causes, close_causes, call_causes, refusal}
use Rattle.ledger.specs.Effects.{effect}
use Rattle.ledger.specs.Season.{accepted, step, after_from, after}
use Rattle.ledger.specs.NumberSplit.{without_number, refusal_without, accepted_without, step_without, after_without, NumberSplit}
use Rattle.ledger.proofs.Unmet.{kw_in_range}

-- the same number, or 11 that is now 19
abbrev Split : ℕ → ℕ → Type 0
Split was now = (now ≡ was) ⊎ ((was ≡ above_verified) × (now ≡ unverified))

-- without evidence nothing is verified
none_verified : (L : Ledger) (h s term : ℕ) → has_evidence L h s term ≡ false → verified_kw L h s term ≡ 0
unfolding has_evidence verified_kw entry_kw
none_verified L h s term e =
    let neither = or_unmet (counts_for term (L.evidence.entry h s ownership)) (counts_for term (L.evidence.entry h s contract)) e in
    ap₂ (λ a b. a + b) (when_is_false _ neither.0) (when_is_false _ neither.1)

-- so whatever is nominated there is above it
unverified_exceeds : (o : Opening) (L : Ledger) (tier h p kw : ℕ) → 1 ≤ kw → lacks_evidence o L tier h p ≡ true → exceeds_verified o L tier h p kw ≡ true
unfolding lacks_evidence exceeds_verified
unverified_exceeds o L tier h p kw low e =
    let s = path_source o p in
    let both = and_both (needs_verification o tier h) (not (has_evidence L h s (term_of tier))) e in
    let none = none_verified L h s (term_of tier) (not-true _ both.1) in
    let above : verified_kw L h s (term_of tier) < source_usage o L tier h s + kw = omega (arith, none) in
    (λ i. both.0 i && lt-ltb _ _ above i)

-- a list of causes with 19 right before 11, where whatever meets 19 and is in range meets 11
by_tests : (book range time sink evidence above : Bool) (later : List Cause) → (range ≡ false → evidence ≡ true → above ≡ true) → Split (first_met (cause not_in_book book ∷ cause out_of_range range ∷ cause not_at_this_time time ∷ cause sink_ineligible sink ∷ cause above_verified above ∷ later)) (first_met (cause not_in_book book ∷ cause out_of_range range ∷ cause not_at_this_time time ∷ cause sink_ineligible sink ∷ cause unverified evidence ∷ cause above_verified above ∷ later))
unfolding first_met
by_tests true range time sink evidence above later meets = inl refl
by_tests false true time sink evidence above later meets = inl refl
by_tests false false true sink evidence above later meets = inl refl
by_tests false false false true evidence above later meets = inl refl
by_tests false false false false false above later meets = inl refl
by_tests false false false false true above later meets = inr (ap (λ t. cond t above_verified (first_met later)) (meets refl refl), refl)

-- each call's refusal; no other call has a cause of number 19
split : (o : Opening) (L : Ledger) (c : Call) → Split (refusal_without o L c) (refusal o L c)
unfolding refusal refusal_without without_number call_causes load_causes carry_causes prior_causes verify_causes migrate_causes open_causes nominate_causes award_causes close_causes
split o L (load h s term contract n blocks) = inl refl
split o L (carry h p kw) = inl refl
split o L (prior h p a l) = inl refl
split o L (verify h s kind capacity right first last mark) = inl refl
split o L (migrate term sink lines) = inl refl
split o L (open_tier tier) = inl refl
split o L (nominate h p kw) = by_tests _ (kw_out_of_range kw) _ _ (lacks_evidence o L L.tiers.current_tier h p) _ _ (λ range e. unverified_exceeds o L L.tiers.current_tier h p kw (kw_in_range kw range).0 e)
split o L (award h p kw) = inl refl
split o L close_tier = inl refl

accepted_alike_lem : (o : Opening) (L : Ledger) (c : Call) → accepted o L c ≡ accepted_without o L c
unfolding accepted accepted_without
accepted_alike_lem o L c = go (split o L c)
  where
    go : Split (refusal_without o L c) (refusal o L c) → eqb (refusal o L c) 0 ≡ eqb (refusal_without o L c) 0
    go (inl same) = ap (λ n. eqb n 0) same
    go (inr (was, now)) = ap (λ n. eqb n 0) now ∙ sym (ap (λ n. eqb n 0) was)

renumbered : (o : Opening) (L : Ledger) (c : Call) → (refusal o L c ≡ refusal_without o L c → ⊥) → (refusal_without o L c ≡ above_verified) × (refusal o L c ≡ unverified)
renumbered o L c other = go (split o L c)
  where
    go : Split (refusal_without o L c) (refusal o L c) → (refusal_without o L c ≡ above_verified) × (refusal o L c ≡ unverified)
    go (inl same) = absurd (other same)
    go (inr both) = both

same_from : (o : Opening) (L : Ledger) (cs : List Call) → after_from o L cs ≡ after_without o L cs
unfolding after_from after_without step step_without
same_from o L [] = refl
same_from o L (c ∷ cs) = same_from o (step o L c) cs ∙ ap (λ t. after_without o (cond t (effect o L c) L) cs) (accepted_alike_lem o L c)

pub number_split : NumberSplit
unfolding after
number_split =
    record {
      accepted_alike = accepted_alike_lem;
      renumbered = renumbered;
      same_ledger = λ o cs. same_from o empty_ledger cs;
    }
