-- `awards::holdings::holding` meets its contract: the figures in the two slots of the month are small, and the holding is their sum. Assumes nothing.
use Rattle.awards.proofs.HoldingLaws.{holding_is}
use Rattle.awards.proofs.holdings.holding.Goals as goal

pub returns : goal.returns
returns c = λ m x. holding_is _ m x _ _ _ _ _ c.requires c.read-carried.ensures c.read-awarded.ensures
