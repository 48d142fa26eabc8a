-- What a query that meets no cause names is in the book. Assumes nothing.
use Prim.Native.Nat.{ℕ, ◌<◌}
use mathlib.Core.Path.{◌≡◌}
use borrow.Author.Tests.{leb-false}
use Rattle.tariff.proofs.Tests.{or_unmet}
use Rattle.ledger.specs.Opening.{Opening}
use Rattle.ledger.specs.Ledger.{Ledger}
use Rattle.ledger.specs.Ranges.{unknown_holder, unknown_path}
use Rattle.ledger.specs.Call.{limit_of, held_on, net_on}
use Rattle.ledger.specs.Causes.{limit_causes, held_causes, net_causes, query_causes, query_refusal}
use Rattle.ledger.proofs.Unmet.{unmet}

pub limit_holder : (o : Opening) (L : Ledger) (h s : ℕ) → query_refusal o L (limit_of h s) ≡ 0 → h < o.holders
unfolding query_refusal query_causes limit_causes unknown_holder
limit_holder o L h s e = leb-false _ _ (or_unmet _ _ (unmet 1 _ _ e).0).0

pub held_names : (o : Opening) (L : Ledger) (h p m : ℕ) → query_refusal o L (held_on h p m) ≡ 0 → (h < o.holders) × (p < o.paths)
unfolding query_refusal query_causes held_causes unknown_holder unknown_path
held_names o L h p m e = let known = or_unmet _ _ (unmet 1 _ _ e).0 in (leb-false _ _ known.0, leb-false _ _ known.1)

pub net_names : (o : Opening) (L : Ledger) (p m : ℕ) → query_refusal o L (net_on p m) ≡ 0 → p < o.paths
unfolding query_refusal query_causes net_causes unknown_path
net_names o L p m e = leb-false _ _ (unmet 1 _ _ e).0
