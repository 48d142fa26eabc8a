-- The sums of a limit, added up path by path (01, Limits).
use Rattle.records.specs.declared.setup.KeptOpening.{KeptOpening}
use Rattle.std.specs.Prelude.{ℕ, ◌+◌, ◌*◌, ◌≤◌, ◌<◌, Bool, List}
use Rattle.tier_limits.specs.declared.limits.PathSums.{PathSums}
use Rattle.tier_limits.specs.declared.limits.TierSlots.{TierSlots}
use Rattle.tariff.specs.Sum.{when_true, sum_to}
use Rattle.ledger.specs.Opening.{Opening, has_base}
use Rattle.slots.specs.Cells.{max_holders, max_places}
use Rattle.slots.specs.Layout.{figure_slots, prior_allocated_slot, awards_slot}
use Rattle.slots.specs.Sums.{on_path, max_figure, Summable}

-- Last year's allocation and the awards of tiers 1 to 3 have the same slots in every tier. Two more depend on the tier: that of the carried holding, by
-- its month, and that of the awards of the tier before.

-- the sums with the figures of one path more, where it counts
unfoldable pub with_path : List ℕ → (h p : ℕ) → TierSlots → Bool → PathSums → PathSums
with_path f h p slots counts s =
    record {
      carried = s.carried + when_true counts (on_path f h slots.carried p);
      prior = s.prior + when_true counts (on_path f h prior_allocated_slot p);
      tier1 = s.tier1 + when_true counts (on_path f h (awards_slot + 1) p);
      tier2 = s.tier2 + when_true counts (on_path f h (awards_slot + 2) p);
      tier3 = s.tier3 + when_true counts (on_path f h (awards_slot + 3) p);
      before = s.before + when_true counts (on_path f h slots.before p);
    }

-- what a holder has in a slot on the first n paths, of those whose sink has this base
unfoldable pub slot_to : Opening → List ℕ → (h base slot n : ℕ) → ℕ
slot_to O f h base slot n = sum_to n (λ p. when_true (has_base O base p) (on_path f h slot p))

-- the sums after n paths
unfoldable pub sums_to : Opening → List ℕ → (h base : ℕ) → TierSlots → (n : ℕ) → PathSums
sums_to O f h base slots n =
    record {
      carried = slot_to O f h base slots.carried n;
      prior = slot_to O f h base prior_allocated_slot n;
      tier1 = slot_to O f h base (awards_slot + 1) n;
      tier2 = slot_to O f h base (awards_slot + 2) n;
      tier3 = slot_to O f h base (awards_slot + 3) n;
      before = slot_to O f h base slots.before n;
    }

-- the figures of all paths can be summed, and the two slots are there
pub record PathsSummable (o : KeptOpening) (f : List ℕ) (h : ℕ) (slots : TierSlots) : Type 0 where
  pub each : (slot : ℕ) → slot < figure_slots → Summable o f h slot
  pub carried_in_row : slots.carried < figure_slots
  pub before_in_row : slots.before < figure_slots

-- no sum is above what all paths can come to
pub record SumsFit (s : PathSums) : Type 0 where
  pub carried : s.carried ≤ max_places * max_figure
  pub prior : s.prior ≤ max_places * max_figure
  pub tier1 : s.tier1 ≤ max_places * max_figure
  pub tier2 : s.tier2 ≤ max_places * max_figure
  pub tier3 : s.tier3 ≤ max_places * max_figure
  pub before : s.before ≤ max_places * max_figure

-- a path's figures are there and small, and so are the sums that they are added to
pub record PathSummable (f : List ℕ) (h p : ℕ) (slots : TierSlots) (s : PathSums) : Type 0 where
  pub holder : h < max_holders
  pub place : p < max_places
  pub carried_in_row : slots.carried < figure_slots
  pub before_in_row : slots.before < figure_slots
  pub each : (slot : ℕ) → slot < figure_slots → on_path f h slot p ≤ max_figure
  pub sums : SumsFit s
