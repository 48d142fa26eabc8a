-- `awards::holdings::net` meets its contract: a query that meets no cause names what is in the book, and is answered with the holders' sum. Assumes nothing.
use Rattle.ledger.specs.Season.{query_value}
use Rattle.std.proofs.lemmas.Result.{err_from_is_err_and}
use Rattle.slots.proofs.StepLaws.{query_refused, query_answered}
use Rattle.awards.proofs.HoldingLaws.{net_names}
use Rattle.awards.proofs.holdings.net.Goals as goal

pub returns-in_err-check_net : goal.returns-in_err-check_net
returns-in_err-check_net c = λ m x r. let p = err_from_is_err_and c.from_residual.result c.from_residual.ensures.1 in rw (p.1, p.2) (query_refused _ _ _ _ (c.in_err-check_net.ensures _))

pub net_holding-requires : goal.net_holding-requires
net_holding-requires c = let known = net_names _ _ _ c.in_ok-check_net.ensures in (c.requires, known.0, known.1, known.2)

pub returns : goal.returns
unfolding query_value
returns c = λ m x r. query_answered _ _ _ _ (c.in_ok-check_net.ensures _) (c.net_holding.ensures m x r)
