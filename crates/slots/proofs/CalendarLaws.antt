-- A call comes at its time by the calendar in a book's figures where it does by the ledger in the arrays. Assumes nothing.
use Prim.Native.Nat.{ℕ}
use mathlib.Core.Path.{◌≡◌, refl}
use mathlib.Core.Bool.{Bool}
use mathlib.Core.List.{List}
use Rattle.source_evidence.specs.declared.evidence.Entry.{Entry}
use Rattle.ledger.specs.Ledger.{with_tiers}
use Rattle.ledger.specs.Calendar.{tier_is_open, before_tier, load_in_time, migration_in_time, step_in_time, is_next_tier}
use Rattle.records.specs.Calendar.{ledger_at}
use Rattle.slots.specs.Layout.{calendar_in, ledger_in}

module _ (f : List ℕ) (m : List Bool) (x : List Entry) where
  pub open_as_ledger : tier_is_open (ledger_in f m x) ≡ tier_is_open (ledger_at (calendar_in f))
  unfolding tier_is_open calendar_in ledger_in ledger_at with_tiers
  open_as_ledger = refl

  pub before_as_ledger : (tier : ℕ) → before_tier tier (ledger_in f m x) ≡ before_tier tier (ledger_at (calendar_in f))
  unfolding tier_is_open before_tier calendar_in ledger_in ledger_at with_tiers
  before_as_ledger tier = refl

  pub load_as_ledger : (term : ℕ) → load_in_time term (ledger_in f m x) ≡ load_in_time term (ledger_at (calendar_in f))
  unfolding tier_is_open before_tier load_in_time calendar_in ledger_in ledger_at with_tiers
  load_as_ledger term = refl

  pub migration_as_ledger : (term : ℕ) → migration_in_time term (ledger_in f m x) ≡ migration_in_time term (ledger_at (calendar_in f))
  unfolding tier_is_open before_tier migration_in_time calendar_in ledger_in ledger_at with_tiers
  migration_as_ledger term = refl

  pub next_as_ledger : (tier : ℕ) → is_next_tier tier (ledger_in f m x) ≡ is_next_tier tier (ledger_at (calendar_in f))
  unfolding tier_is_open step_in_time is_next_tier calendar_in ledger_in ledger_at with_tiers
  next_as_ledger tier = refl
