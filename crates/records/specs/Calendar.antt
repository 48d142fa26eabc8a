-- The calendar as a ledger has it (01, Tiers; 02, 1/14).
use Rattle.ledger.specs.Ledger.{Ledger, empty_ledger, with_tiers}
use Rattle.records.specs.declared.calendar.Calendar.{Calendar}

-- a ledger whose tiers have come as far as the calendar says, and that is empty beside: when a call can run the ledger says by these three alone
unfoldable pub ledger_at : Calendar → Ledger
ledger_at c = with_tiers empty_ledger (record { nominated = λ h p t. 0; awards = λ h p t. 0; last_closed = c.last_closed; current_tier = c.current_tier; step_held = c.step_held })
