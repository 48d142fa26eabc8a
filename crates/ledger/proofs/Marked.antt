-- The twelve marked cases of document 01 hold of the definitions, by computation. Assumes nothing.
use mathlib.Core.Path.{◌≡◌, refl}
use mathlib.Core.List.{map}
use Rattle.tariff.specs.Sum.{when_true, sum_to, all_below, any_below, sum_over, any_of, filter}
use Rattle.load_metric.specs.Load.{in_order, is_empty, blocks_broken, present_hours, missing_hours, too_many_missing, hours_above, exceedance_hours, within_exceedance, smallest, smallest_within, metric, load_posted}
use Rattle.tariff.specs.Eligible.{seasonal_eligible, priority_eligible, eligible_without_evidence, eligible_with_evidence}
use Rattle.tariff.specs.Settings.{part_of, fraction_legal, settings_legal, fraction_at, settings_of, present_settings}
use Rattle.tariff.specs.Terms.{term_table, term_of, first_tier_of, is_month, has_month, is_long_term_step, entering_kw, carried_month}
use Rattle.tariff.specs.Limit.{limit_tier1, limit_tier2, limit_tier3, limit_even_tier, limit_odd_tier, eligible_by_evidence, long_term_of_lse, long_term_eligible, limit_long_term, limit_by, formula_of, limit_of_sums}
use Rattle.source_evidence.specs.Evidence.{empty_entry, evidence_of, entry_of, highest_right, evidence_kw, counts_for, entry_kw, is_ten_year, ten_year_kw_of}
use Rattle.netting.specs.Migration.{watts_one_way, netted, lost_by, share, shares, transferred}
use Rattle.ledger.specs.Opening.{holder_kind, sink_kind, base, path_source, path_sink, path_base, has_base, has_source, counts_fit, lists_fit, holder_legal, parent_legal, sink_legal, path_legal, paths_alike, path_new, legal, opening_refusal}
use Rattle.ledger.specs.Ledger.{empty_ledger, with_loads, with_rights, with_priors, with_evidence, with_tiers}
use Rattle.ledger.specs.Calendar.{tier_is_open, before_tier, load_in_time, migration_in_time, step_in_time, is_next_tier}
use Rattle.ledger.specs.TenYear.{has_ten_year, ten_year_at, ten_year_sum}
use Rattle.ledger.specs.Limits.{sum_at_base, long_term_at, prior_year_at, awards_at, nominated_at, limit_sums, tier_limit}
use Rattle.ledger.specs.Verification.{sum_from_source, has_evidence, verified_kw, uses_same_evidence, used_before, source_usage}
use Rattle.ledger.specs.Migration.{transferred_where, load_after, load_before, loads_after, column_after, rights_after, priors_after, migrated}
use Rattle.ledger.specs.Numbers.{first_met}
use Rattle.tariff.specs.Ranges.{within, kw_out_of_range, term_out_of_range, month_out_of_range}
use Rattle.source_evidence.specs.Filing.{evidence_out_of_range}
use Rattle.netting.specs.ClassRanges.{class_line_out_of_range, class_fields_out_of_range}
use Rattle.ledger.specs.Ranges.{unknown_holder, unknown_source, unknown_sink, unknown_path, unknown_holder_in, load_out_of_range, prior_out_of_range, migration_out_of_range, tier_out_of_range}
use Rattle.ledger.specs.Causes.{line_not_between_lses, loss_exceeds_load, kind_ineligible, is_sub_lap, needs_verification, lacks_evidence, exceeds_verified, exceeds_prior, exceeds_tier1_award, needs_ten_year, needs_evidence_at, lacks_ten_year, exceeds_limit, exceeds_nominated, load_causes, carry_causes, prior_causes, verify_causes, migrate_causes, open_causes, nominate_causes, award_causes, close_causes, call_causes, refusal, limit_causes, held_causes, net_causes, query_causes, query_refusal}
use Rattle.ledger.specs.Effects.{same2, same3, plus_at2, plus_at3, plus_in_term, after_load, after_carry, after_prior, after_verify, after_open, after_nominate, awards_after, holdings_after, after_close, effect}
use Rattle.ledger.specs.Season.{accepted, step, held, net, query_value, answer, step_request, answers, season}
use Rattle.ledger.specs.Marked.{up_to, one_sink, block, class_line, steady_load, pass_tier, full_tier, opening1, requests1, rest1, answers1, case1, blocks2, case2, case3, case4, case5, case6, case7, case8, case9, lines10, case10, case11, case12, marked_cases}

-- what the definitions give in each case is what 01 marks
pub marked_cases_lem : map (λ c. c.given) marked_cases ≡ map (λ c. c.expected) marked_cases
unfolding when_true sum_to all_below any_below sum_over any_of filter in_order is_empty blocks_broken present_hours missing_hours too_many_missing hours_above exceedance_hours within_exceedance smallest smallest_within metric load_posted part_of fraction_legal settings_legal fraction_at settings_of present_settings seasonal_eligible priority_eligible eligible_without_evidence eligible_with_evidence term_table term_of first_tier_of is_month has_month is_long_term_step entering_kw carried_month limit_tier1 limit_tier2 limit_tier3 limit_even_tier limit_odd_tier eligible_by_evidence long_term_of_lse long_term_eligible limit_long_term limit_by formula_of limit_of_sums empty_entry evidence_of entry_of highest_right evidence_kw counts_for entry_kw is_ten_year ten_year_kw_of watts_one_way netted lost_by share shares transferred holder_kind sink_kind base path_source path_sink path_base has_base has_source counts_fit lists_fit holder_legal parent_legal sink_legal path_legal paths_alike path_new legal opening_refusal empty_ledger with_loads with_rights with_priors with_evidence with_tiers tier_is_open before_tier load_in_time migration_in_time step_in_time is_next_tier has_ten_year ten_year_at ten_year_sum sum_at_base long_term_at prior_year_at awards_at nominated_at limit_sums tier_limit sum_from_source has_evidence verified_kw uses_same_evidence used_before source_usage load_before transferred_where load_after loads_after column_after rights_after priors_after migrated first_met unknown_holder unknown_source unknown_sink unknown_path unknown_holder_in within kw_out_of_range term_out_of_range month_out_of_range load_out_of_range prior_out_of_range evidence_out_of_range class_line_out_of_range class_fields_out_of_range migration_out_of_range tier_out_of_range line_not_between_lses loss_exceeds_load kind_ineligible is_sub_lap needs_verification lacks_evidence exceeds_verified exceeds_prior exceeds_tier1_award needs_ten_year needs_evidence_at lacks_ten_year exceeds_limit exceeds_nominated load_causes carry_causes prior_causes verify_causes migrate_causes open_causes nominate_causes award_causes close_causes call_causes refusal limit_causes held_causes net_causes query_causes query_refusal same2 same3 plus_at2 plus_at3 plus_in_term after_load after_carry after_prior after_verify after_open after_nominate awards_after holdings_after after_close effect accepted step held net query_value answer step_request answers season up_to one_sink block class_line steady_load pass_tier full_tier opening1 requests1 rest1 answers1 case1 blocks2 case2 case3 case4 case5 case6 case7 case8 case9 lines10 case10 case11 case12 marked_cases
marked_cases_lem = refl
