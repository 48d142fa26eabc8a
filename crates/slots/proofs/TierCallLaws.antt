-- A nomination or an award that meets none of 2, 3 and 4 names a holder and a path of the book, and a kW in its range. Assumes nothing.
use Prim.Native.Nat.{ℕ, ◌≤◌, ◌<◌}
use mathlib.Core.Path.{◌≡◌, sym}
use lib.ListN.{take}
use borrow.Author.Tests.{leb-false}
use Rattle.tariff.specs.Ranges.{max_kw}
use Rattle.tariff.proofs.Tests.{or_unmet}
use Rattle.ledger.specs.Opening.{Opening}
use Rattle.ledger.specs.Ledger.{Ledger}
use Rattle.ledger.specs.Numbers.{first_met}
use Rattle.ledger.specs.Ranges.{unknown_holder, unknown_path}
use Rattle.ledger.specs.Causes.{nominate_causes}
use Rattle.ledger.proofs.Unmet.{unmet, kw_in_range}
use Rattle.slots.specs.TierCall.{causes_before_tier}

pub tier_call_names : (O : Opening) (L : Ledger) (h p kw : ℕ) → 0 ≡ first_met (take causes_before_tier (nominate_causes O L h p kw)) → (h < O.holders) × (p < O.paths) × (kw ≤ max_kw)
unfolding nominate_causes unknown_holder unknown_path
tier_call_names O L h p kw none =
    let first = unmet 1 _ _ (sym none) in
    let in_book = or_unmet _ _ first.0 in
    (leb-false _ _ in_book.0, leb-false _ _ in_book.1, (kw_in_range kw (unmet 2 _ _ first.1).0).1)
