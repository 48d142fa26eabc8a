-- `awards::holdings::held` meets its contract: a query that meets no cause names what is in the book, and is answered with the holding. Assumes nothing.
use Rattle.ledger.specs.Season.{query_value}
use Rattle.std.proofs.lemmas.Result.{err_from_is_err_and}
use Rattle.slots.proofs.StepLaws.{query_refused, query_answered}
use Rattle.awards.proofs.HoldingLaws.{held_names, has_holding}
use Rattle.awards.proofs.holdings.held.Goals as goal

pub returns-in_err-check_held : goal.returns-in_err-check_held
returns-in_err-check_held c = λ m x r. let p = err_from_is_err_and c.from_residual.result c.from_residual.ensures.1 in rw (p.1, p.2) (query_refused _ _ _ _ (c.in_err-check_held.ensures _))

pub holding-requires : goal.holding-requires
holding-requires c = let known = held_names _ _ _ _ c.in_ok-check_held.ensures in has_holding _ _ _ _ c.requires.reachable _ _ known.1 known.2 known.3 _ known.0

pub returns : goal.returns
unfolding query_value
returns c = λ m x r. query_answered _ _ _ _ (c.in_ok-check_held.ensures _) (c.holding.ensures m x)
