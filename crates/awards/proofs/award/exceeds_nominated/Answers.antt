-- `awards::award::exceeds_nominated` meets its contract: the figures that it reads are the open tier's nominations and awards. Assumes nothing.
use Rattle.awards.proofs.AwardLaws.{nominated_test}
use Rattle.awards.proofs.award.exceeds_nominated.Goals as goal

pub returns : goal.returns
returns c = λ m x. nominated_test c.args.f.now m x _ _ _ _ _ _ c.requires.0 c.requires.1 c.requires.2 c.read-nominated.ensures c.read.ensures
