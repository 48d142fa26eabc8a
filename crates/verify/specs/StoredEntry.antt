-- What is stored of an entry: its coverage of terms 0 to 3, in four slots side by side, and whether it is ten-year evidence.
use Rattle.std.specs.Prelude.{ℕ, zero, suc, ◌+◌, ◌*◌, ◌≤◌, ◌<◌, List}
use Rattle.source_evidence.specs.declared.evidence.Entry.{Entry}
use Rattle.tariff.specs.Sizes.{terms}
use Rattle.source_evidence.specs.Evidence.{is_ten_year}
use Rattle.slots.specs.Cells.{max_holders, max_places, stored_at}
use Rattle.slots.specs.Coverage.{coverage}
use Rattle.slots.specs.Layout.{figure_slots, ownership_slot, ten_year_slot, flag}

-- figures with an entry's coverage of the terms below n stored in the slots that begin at `from`
unfoldable pub stored_below : ℕ → List ℕ → (h s from : ℕ) → Entry → List ℕ
stored_below zero f h s from entry = f
stored_below (suc term) f h s from entry =
    stored_at figure_slots (stored_below term f h s from entry) h s (from + term) (coverage term entry)

-- .. and of each term
unfoldable pub stored_by_term : List ℕ → (h s from : ℕ) → Entry → List ℕ
stored_by_term f h s from entry = stored_below terms f h s from entry

-- figures that have these four slots
pub record HasTerms (f : List ℕ) (h s from : ℕ) : Type 0 where
  pub holder : h < max_holders
  pub place : s < max_places
  pub in_row : from + terms ≤ figure_slots

-- figures with what is kept of an entry stored in the slots of its kind, 0 for ownership and 1 for a contract
unfoldable pub stored_entry : List ℕ → (h s slot : ℕ) → Entry → List ℕ
stored_entry f h s slot entry =
    stored_at figure_slots (stored_by_term f h s (ownership_slot + terms * slot) entry) h s (ten_year_slot + slot) (flag (is_ten_year entry))
