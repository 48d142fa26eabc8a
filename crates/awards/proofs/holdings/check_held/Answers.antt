-- `awards::holdings::check_held` meets its contract: past the holder its causes are those of a net query. Assumes nothing.
use Rattle.std.proofs.Common.{rules}
use Rattle.ledger.specs.Causes.{query_refusal, query_causes, held_causes, net_causes}
use Rattle.ledger.specs.Numbers.{first_met}
use Rattle.awards.proofs.holdings.check_held.Goals as goal

pub returns : goal.returns
unfolding query_refusal query_causes held_causes net_causes first_met
returns c L = let as_net = c.check_net.ensures L in search rules
