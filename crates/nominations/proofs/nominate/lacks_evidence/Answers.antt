-- `nominations::nominate::lacks_evidence` meets its contract: it is looked at where the holder has to verify its sources. Assumes nothing.
use Rattle.nomination_tests.proofs.NominateCauses.{source_inputs}
use Rattle.nominations.proofs.nominate.lacks_evidence.Goals as goal

pub has_evidence-requires : goal.has_evidence-requires
has_evidence-requires c = source_inputs c.n.invariant _ c.path_source-source.ensures
