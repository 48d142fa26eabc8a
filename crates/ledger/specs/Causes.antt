-- For each call and query its causes in their order, that of their numbers but where 02 says another, and the refusal: the number of the first that is met,
-- 0 for none (01, Refusals by cause; 02).
use Rattle.std.specs.Prelude.{ℕ, ◌+◌, Bool, cond, not, ◌&&◌, ◌||◌, List, [], ◌∷◌, leb, ltb, eqb}
use Rattle.netting.specs.declared.netting.ClassLine.{ClassLine}
use Rattle.tariff.specs.Sum.{any_of, any_below}
use Rattle.load_metric.specs.declared.block.Block.{Block}
use Rattle.load_metric.specs.Load.{blocks_broken, too_many_missing}
use Rattle.tariff.specs.Terms.{term_of, is_long_term_step}
use Rattle.tariff.specs.Eligible.{eligible_without_evidence}
use Rattle.netting.specs.Migration.{netted, lost_by}
use Rattle.ledger.specs.Opening.{Opening, lse, obaalse, sub_lap, scheduling_point, holder_kind, sink_kind, path_source, path_sink, path_base, has_base}
use Rattle.ledger.specs.Call.{Call, load, carry, prior, verify, migrate, open_tier, nominate, award, close_tier, Query, limit_of, held_on, net_on}
use Rattle.ledger.specs.Ledger.{Ledger}
use Rattle.ledger.specs.Calendar.{tier_is_open, before_tier, load_in_time, migration_in_time, is_next_tier}
use Rattle.ledger.specs.Limits.{long_term_at, nominated_at, tier_limit}
use Rattle.ledger.specs.TenYear.{has_ten_year}
use Rattle.ledger.specs.Verification.{has_evidence, verified_kw, source_usage}
use Rattle.ledger.specs.Migration.{load_before}
use Rattle.ledger.specs.Numbers.{not_in_book, out_of_range, not_at_this_time, posted_before, broken_blocks, hours_missing, not_between_lses, loss_above_load, sink_ineligible, above_verified, above_prior, above_tier1_award, no_ten_year_evidence, unverified, above_limit, above_nominated, Cause, cause, first_met}
use Rattle.tariff.specs.Ranges.{kw_out_of_range, month_out_of_range}
use Rattle.source_evidence.specs.Filing.{evidence_out_of_range}
use Rattle.ledger.specs.Ranges.{unknown_holder, unknown_source, unknown_sink, unknown_path, unknown_holder_in, load_out_of_range, prior_out_of_range, migration_out_of_range, tier_out_of_range}

-- cause 8: a class line from a holder to itself, or one that names an OBAALSE
unfoldable pub line_not_between_lses : Opening → ClassLine → Bool
line_not_between_lses o l =
    eqb l.from l.to
    || eqb (holder_kind o l.from) obaalse
    || eqb (holder_kind o l.to) obaalse

-- cause 9: some loser's m together exceed its load at the sink and term
unfoldable pub loss_exceeds_load : Opening → Ledger → ℕ → ℕ → List ClassLine → Bool
loss_exceeds_load o L term sink lines =
    any_below o.holders (λ i. ltb (load_before L term sink i) (lost_by o.holders (netted lines) i))

-- cause 10: a scheduling point is not for an LSE, and nothing else is for an OBAALSE
unfoldable pub kind_ineligible : Opening → ℕ → ℕ → Bool
kind_ineligible o h s = cond (eqb (holder_kind o h) lse) (eqb (sink_kind o s) scheduling_point) (not (eqb (sink_kind o s) scheduling_point))

-- cause 10: a Sub-LAP, which takes no load and no tier 1 nomination
unfoldable pub is_sub_lap : Opening → ℕ → Bool
is_sub_lap o s = eqb (sink_kind o s) sub_lap

-- causes 19 and 11: an OBAALSE has to verify its sources, in every tier but the Long Term step (02, 1/14)
unfoldable pub needs_verification : Opening → ℕ → ℕ → Bool
needs_verification o tier h = not (is_long_term_step tier) && eqb (holder_kind o h) obaalse

-- cause 19: the path's source has no evidence for the tier's term (02, 2/14)
unfoldable pub lacks_evidence : Opening → Ledger → ℕ → ℕ → ℕ → Bool
lacks_evidence o L tier h p = needs_verification o tier h && not (has_evidence L h (path_source o p) (term_of tier))

-- cause 11: with kw more, the holder uses more of the path's source than it has verified for the tier's term
unfoldable pub exceeds_verified : Opening → Ledger → ℕ → ℕ → ℕ → ℕ → Bool
exceeds_verified o L tier h p kw =
    needs_verification o tier h
    && ltb (verified_kw L h (path_source o p) (term_of tier)) (source_usage o L tier h (path_source o p) + kw)

-- cause 12: with kw more, the holder's tier 1 nominations on the path exceed its a − l
unfoldable pub exceeds_prior : Ledger → ℕ → ℕ → ℕ → ℕ → Bool
exceeds_prior L tier h p kw = eqb tier 1 && ltb (L.priors.remaining h p) (L.tiers.nominated h p tier + kw)

-- cause 17: with kw more, the holder's nominations on the path in the Long Term step exceed its tier 1 award there (02, 1/14)
unfoldable pub exceeds_tier1_award : Ledger → ℕ → ℕ → ℕ → ℕ → Bool
exceeds_tier1_award L tier h p kw = is_long_term_step tier && ltb (L.tiers.awards h p 1) (L.tiers.nominated h p tier + kw)

-- cause 18: ten-year evidence is needed by an OBAALSE, and by any other holder whose nominations at the base, kw more with them, plus LT of month 1 exceed
-- the fifth fraction of its load of the season (02, 1/14 and 3/14)
unfoldable pub needs_ten_year : Opening → Ledger → ℕ → ℕ → ℕ → ℕ → Bool
needs_ten_year o L tier h b kw =
    eqb (holder_kind o h) obaalse
    || ltb (eligible_without_evidence o.settings (L.loads.kw h b 0)) (nominated_at o L h b tier + kw + long_term_at o L h b 1)

-- it is needed at the source of this path, and of each path at its base that the holder has nominated on in the tier (02, 1/14)
unfoldable pub needs_evidence_at : Opening → Ledger → ℕ → ℕ → ℕ → ℕ → Bool
needs_evidence_at o L tier h p q = eqb q p || (has_base o (path_base o p) q && leb 1 (L.tiers.nominated h q tier))

-- cause 18: in the Long Term step, ten-year evidence is needed at a source that has none (02, 1/14)
unfoldable pub lacks_ten_year : Opening → Ledger → ℕ → ℕ → ℕ → ℕ → Bool
lacks_ten_year o L tier h p kw =
    is_long_term_step tier
    && needs_ten_year o L tier h (path_base o p) kw
    && any_below o.paths (λ q. needs_evidence_at o L tier h p q && not (has_ten_year L h (path_source o q)))

-- cause 13: with kw more, the holder's nominations at the path's base exceed the limit
unfoldable pub exceeds_limit : Opening → Ledger → ℕ → ℕ → ℕ → ℕ → Bool
exceeds_limit o L tier h p kw = ltb (tier_limit o L tier h (path_base o p)) (nominated_at o L h (path_base o p) tier + kw)

-- cause 14: with kw more, the holder's awards on the path exceed its nominations in the tier
unfoldable pub exceeds_nominated : Ledger → ℕ → ℕ → ℕ → ℕ → Bool
exceeds_nominated L tier h p kw = ltb (L.tiers.nominated h p tier) (L.tiers.awards h p tier + kw)

module _ (o : Opening) (L : Ledger) where
  unfoldable pub load_causes : ℕ → ℕ → ℕ → ℕ → ℕ → List Block → List Cause
  load_causes h s term contract n blocks =
      cause not_in_book (unknown_holder o h || unknown_sink o s)
      ∷ cause out_of_range (load_out_of_range term contract n blocks)
      ∷ cause not_at_this_time (not (load_in_time term L))
      ∷ cause posted_before (L.loads.posted h s term)
      ∷ cause broken_blocks (blocks_broken n blocks)
      ∷ cause hours_missing (too_many_missing o.settings n blocks)
      ∷ cause sink_ineligible (kind_ineligible o h s || is_sub_lap o s)
      ∷ []

  unfoldable pub carry_causes : ℕ → ℕ → ℕ → List Cause
  carry_causes h p kw =
      cause not_in_book (unknown_holder o h || unknown_path o p)
      ∷ cause out_of_range (kw_out_of_range kw)
      ∷ cause not_at_this_time (not (before_tier 1 L))
      ∷ cause posted_before (L.rights.posted h p)
      ∷ cause sink_ineligible (kind_ineligible o h (path_sink o p))
      ∷ []

  unfoldable pub prior_causes : ℕ → ℕ → ℕ → ℕ → List Cause
  prior_causes h p a l =
      cause not_in_book (unknown_holder o h || unknown_path o p)
      ∷ cause out_of_range (prior_out_of_range a l)
      ∷ cause not_at_this_time (not (before_tier 1 L))
      ∷ cause posted_before (L.priors.posted h p)
      ∷ cause sink_ineligible (kind_ineligible o h (path_sink o p))
      ∷ []

  unfoldable pub verify_causes : ℕ → ℕ → ℕ → ℕ → ℕ → ℕ → ℕ → ℕ → List Cause
  verify_causes h s kind capacity right first last mark =
      cause not_in_book (unknown_holder o h || unknown_source o s)
      ∷ cause out_of_range (evidence_out_of_range kind capacity right first last mark)
      ∷ cause not_at_this_time (tier_is_open L)
      ∷ cause posted_before (L.evidence.posted h s kind)
      ∷ []

  unfoldable pub migrate_causes : ℕ → ℕ → List ClassLine → List Cause
  migrate_causes term sink lines =
      cause not_in_book (unknown_sink o sink || unknown_holder_in o lines)
      ∷ cause out_of_range (migration_out_of_range term lines)
      ∷ cause not_at_this_time (not (migration_in_time term L))
      ∷ cause not_between_lses (any_of lines (line_not_between_lses o))
      ∷ cause loss_above_load (loss_exceeds_load o L term sink lines)
      ∷ []

  unfoldable pub open_causes : ℕ → List Cause
  open_causes tier =
      cause out_of_range (tier_out_of_range tier)
      ∷ cause not_at_this_time (not (is_next_tier tier L))
      ∷ []

  -- the step's 17 and 18 come straight after 12 (02, 1/14), and 19 directly before 11 (02, 2/14)
  unfoldable pub nominate_causes : ℕ → ℕ → ℕ → List Cause
  nominate_causes h p kw =
      let tier = L.tiers.current_tier in
      cause not_in_book (unknown_holder o h || unknown_path o p)
      ∷ cause out_of_range (kw_out_of_range kw)
      ∷ cause not_at_this_time (not (tier_is_open L))
      ∷ cause sink_ineligible (kind_ineligible o h (path_sink o p) || (eqb tier 1 && is_sub_lap o (path_sink o p)))
      ∷ cause unverified (lacks_evidence o L tier h p)
      ∷ cause above_verified (exceeds_verified o L tier h p kw)
      ∷ cause above_prior (exceeds_prior L tier h p kw)
      ∷ cause above_tier1_award (exceeds_tier1_award L tier h p kw)
      ∷ cause no_ten_year_evidence (lacks_ten_year o L tier h p kw)
      ∷ cause above_limit (exceeds_limit o L tier h p kw)
      ∷ []

  unfoldable pub award_causes : ℕ → ℕ → ℕ → List Cause
  award_causes h p kw =
      cause not_in_book (unknown_holder o h || unknown_path o p)
      ∷ cause out_of_range (kw_out_of_range kw)
      ∷ cause not_at_this_time (not (tier_is_open L))
      ∷ cause above_nominated (exceeds_nominated L L.tiers.current_tier h p kw)
      ∷ []

  unfoldable pub close_causes : List Cause
  close_causes = cause not_at_this_time (not (tier_is_open L)) ∷ []

  unfoldable pub call_causes : Call → List Cause
  call_causes (load h s term contract n blocks) = load_causes h s term contract n blocks
  call_causes (carry h p kw) = carry_causes h p kw
  call_causes (prior h p a l) = prior_causes h p a l
  call_causes (verify h s kind capacity right first last mark) = verify_causes h s kind capacity right first last mark
  call_causes (migrate term sink lines) = migrate_causes term sink lines
  call_causes (open_tier tier) = open_causes tier
  call_causes (nominate h p kw) = nominate_causes h p kw
  call_causes (award h p kw) = award_causes h p kw
  call_causes close_tier = close_causes

  -- the refusal of a call: the first cause that it meets, 0 where it is accepted
  unfoldable pub refusal : Call → ℕ
  refusal c = first_met (call_causes c)

  -- the limit query: of the open tier, else 4
  unfoldable pub limit_causes : ℕ → ℕ → List Cause
  limit_causes h s =
      cause not_in_book (unknown_holder o h || unknown_sink o s)
      ∷ cause not_at_this_time (not (tier_is_open L))
      ∷ []

  unfoldable pub held_causes : ℕ → ℕ → ℕ → List Cause
  held_causes h p m =
      cause not_in_book (unknown_holder o h || unknown_path o p)
      ∷ cause out_of_range (month_out_of_range m)
      ∷ []

  unfoldable pub net_causes : ℕ → ℕ → List Cause
  net_causes p m =
      cause not_in_book (unknown_path o p)
      ∷ cause out_of_range (month_out_of_range m)
      ∷ []

  unfoldable pub query_causes : Query → List Cause
  query_causes (limit_of h s) = limit_causes h s
  query_causes (held_on h p m) = held_causes h p m
  query_causes (net_on p m) = net_causes p m

  unfoldable pub query_refusal : Query → ℕ
  query_refusal q = first_met (query_causes q)
