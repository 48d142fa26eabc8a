-- `opening::kept::path_bases` meets its contract: the base of each path is looked up. Assumes nothing.
use Rattle.std.proofs.Common.{rules}
use Rattle.tariff.proofs.FromFn.{made_list}
use Rattle.ledger.specs.Opening.{path_base}
use Rattle.records.specs.Opening.{opening_in, path_bases}
use Rattle.opening.proofs.kept.path_bases.Goals as goal

pub returns : goal.returns
unfolding path_bases
returns c = made_list _ _ (path_base (opening_in c.args.o.now)) (λ k y q called. search rules) 16 _ c.from_fn.ensures.items
