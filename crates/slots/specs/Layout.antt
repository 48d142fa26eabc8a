-- The arrays of a ledger, and the ledger that stands in them. Each list below says which slots a holder has at a place, in their order.
use Rattle.std.specs.Prelude.{ℕ, ◌+◌, ◌*◌, Bool, false, cond, List, [], ◌∷◌, get_or, eqb}
use Rattle.tariff.specs.Sizes.{terms, last_month, long_term_step, evidence_kinds, ownership, contract}
use Rattle.source_evidence.specs.declared.evidence.Entry.{Entry}
use Rattle.source_evidence.specs.Evidence.{empty_entry, is_ten_year}
use Rattle.tariff.specs.Sum.{when_true}
use Rattle.ledger.specs.Ledger.{Ledger}
use Rattle.records.specs.declared.calendar.Calendar.{Calendar}
use Rattle.slots.specs.Cells.{rows, array_of}
use Rattle.slots.specs.Groups.{SlotGroup, slot_group, in_slot, figure_from}
use Rattle.slots.specs.Coverage.{coverage}

-- the first slot of each figure, in the order of the list below; by month the slot of month 1 comes first
abbrev pub load_slot : ℕ
load_slot = 0

abbrev pub prior_allocated_slot : ℕ
prior_allocated_slot = load_slot + terms

abbrev pub prior_remaining_slot : ℕ
prior_remaining_slot = prior_allocated_slot + 1

abbrev pub carried_slot : ℕ
carried_slot = prior_remaining_slot + 1

abbrev pub awarded_slot : ℕ
awarded_slot = carried_slot + last_month

abbrev pub nominated_slot : ℕ
nominated_slot = awarded_slot + last_month

abbrev pub awards_slot : ℕ
awards_slot = nominated_slot + 1

-- the awards have a slot for each tier up to the Long Term step, and one for tier 0, which is none
abbrev pub tier_slots : ℕ
tier_slots = long_term_step + 1

abbrev pub ownership_slot : ℕ
ownership_slot = awards_slot + tier_slots

abbrev pub contract_slot : ℕ
contract_slot = ownership_slot + terms

-- whether evidence is ten-year evidence, by kind (02, 1/14)
abbrev pub ten_year_slot : ℕ
ten_year_slot = contract_slot + terms

-- how many slots a row of figures has
abbrev pub figure_slots : ℕ
figure_slots = ten_year_slot + evidence_kinds

-- after the figures stand the tier last closed, the open one, and whether the Long Term step was held
abbrev pub last_closed_at : ℕ
last_closed_at = rows * figure_slots

abbrev pub current_tier_at : ℕ
current_tier_at = last_closed_at + 1

abbrev pub step_held_at : ℕ
step_held_at = current_tier_at + 1

abbrev pub figure_count : ℕ
figure_count = step_held_at + 1

-- the same of what was posted
abbrev pub load_posted_slot : ℕ
load_posted_slot = 0

abbrev pub carry_posted_slot : ℕ
carry_posted_slot = load_posted_slot + terms

abbrev pub prior_posted_slot : ℕ
prior_posted_slot = carry_posted_slot + 1

abbrev pub evidence_posted_slot : ℕ
evidence_posted_slot = prior_posted_slot + 1

abbrev pub posted_slots : ℕ
posted_slots = evidence_posted_slot + evidence_kinds

abbrev pub posted_count : ℕ
posted_count = rows * posted_slots

-- and of evidence
abbrev pub evidence_slots : ℕ
evidence_slots = evidence_kinds

abbrev pub evidence_count : ℕ
evidence_count = rows * evidence_slots

-- a test is kept as 1 where it holds, else as 0
unfoldable pub flag : Bool → ℕ
flag test = when_true test 1

module _ (L : Ledger) where
  -- load by term, at a sink; prior's a, and its a − l; carried and awarded holdings by month; what the open tier has nominated, and awards by
  -- tier, all at a path; and at a source the coverage of each term, ownership and contract apart, and by kind whether it is ten-year evidence.
  -- In a closed tier the nominations are the awards, so they are kept once
  unfoldable pub figure_groups : List (SlotGroup ℕ)
  figure_groups =
      slot_group terms 0 L.loads.kw
      ∷ slot_group 1 0 (λ h p k. L.priors.allocated h p)
      ∷ slot_group 1 0 (λ h p k. L.priors.remaining h p)
      ∷ slot_group last_month 1 L.rights.carried
      ∷ slot_group last_month 1 L.rights.awarded
      ∷ slot_group 1 0 (λ h p k. L.tiers.nominated h p L.tiers.current_tier)
      ∷ slot_group tier_slots 0 L.tiers.awards
      ∷ slot_group terms 0 (λ h s term. coverage term (L.evidence.entry h s ownership))
      ∷ slot_group terms 0 (λ h s term. coverage term (L.evidence.entry h s contract))
      ∷ slot_group evidence_kinds 1 (λ h s kind. flag (is_ten_year (L.evidence.entry h s kind)))
      ∷ []

  -- whether a load was posted, by term; a carry; a prior; evidence, by kind
  unfoldable pub posted_groups : List (SlotGroup Bool)
  posted_groups =
      slot_group terms 0 L.loads.posted
      ∷ slot_group 1 0 (λ h p k. L.rights.posted h p)
      ∷ slot_group 1 0 (λ h p k. L.priors.posted h p)
      ∷ slot_group evidence_kinds 1 L.evidence.posted
      ∷ []

  -- evidence, by kind
  unfoldable pub evidence_groups : List (SlotGroup Entry)
  evidence_groups = slot_group evidence_kinds 1 L.evidence.entry ∷ []

  -- after the figures stand the tier last closed and the open one, 0 for none, and whether the step was held
  unfoldable pub calendar_of : List ℕ
  calendar_of = L.tiers.last_closed ∷ L.tiers.current_tier ∷ flag L.tiers.step_held ∷ []

  unfoldable pub figures_of : List ℕ
  figures_of = array_of figure_slots (in_slot 0 figure_groups) calendar_of

  unfoldable pub posted_of : List Bool
  posted_of = array_of posted_slots (in_slot false posted_groups) []

  unfoldable pub evidence_of : List Entry
  evidence_of = array_of evidence_slots (in_slot empty_entry evidence_groups) []

-- the tier last closed, the open one, and whether the step was held; and the calendar of the three
unfoldable pub last_closed_in : List ℕ → ℕ
last_closed_in f = get_or f last_closed_at 0

unfoldable pub current_tier_in : List ℕ → ℕ
current_tier_in f = get_or f current_tier_at 0

unfoldable pub step_held_in : List ℕ → Bool
step_held_in f = eqb (get_or f step_held_at 0) 1

unfoldable pub calendar_in : List ℕ → Calendar
calendar_in f = record { last_closed = last_closed_in f; current_tier = current_tier_in f; step_held = step_held_in f }

-- the figures of a group that begins at a slot, with so many numbers from the lowest on
unfoldable pub figure_in : List ℕ → (from count low : ℕ) → ℕ → ℕ → ℕ → ℕ
figure_in f from count low h p k = figure_from figure_slots 0 f from count low h p k

unfoldable pub is_posted_in : List Bool → (from count low : ℕ) → ℕ → ℕ → ℕ → Bool
is_posted_in m from count low h p k = figure_from posted_slots false m from count low h p k

-- the ledger that stands in the arrays
unfoldable pub ledger_in : List ℕ → List Bool → List Entry → Ledger
ledger_in f m x =
    record {
      loads = record { kw = figure_in f load_slot terms 0; posted = is_posted_in m load_posted_slot terms 0 };
      rights = record { carried = figure_in f carried_slot last_month 1; awarded = figure_in f awarded_slot last_month 1; posted = λ h p. is_posted_in m carry_posted_slot 1 0 h p 0 };
      priors = record { allocated = λ h p. figure_in f prior_allocated_slot 1 0 h p 0; remaining = λ h p. figure_in f prior_remaining_slot 1 0 h p 0; posted = λ h p. is_posted_in m prior_posted_slot 1 0 h p 0 };
      evidence = record { entry = figure_from evidence_slots empty_entry x 0 evidence_kinds 1; posted = is_posted_in m evidence_posted_slot evidence_kinds 1 };
      tiers =
          record {
            nominated = λ h p t. cond (eqb t (current_tier_in f)) (figure_in f nominated_slot 1 0 h p 0) (figure_in f awards_slot tier_slots 0 h p t);
            awards = figure_in f awards_slot tier_slots 0;
            last_closed = last_closed_in f;
            current_tier = current_tier_in f;
            step_held = step_held_in f;
          };
    }
