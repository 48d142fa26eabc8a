-- `opening::legality::paths_legal` meets its contract: every path passes the test. Assumes nothing.
use Rattle.std.proofs.Common.{ap, ◌∙◌, rules}
use Rattle.tariff.specs.Sum.{all_below}
use Rattle.tariff.proofs.Counted.{all_counted}
use Rattle.ledger.specs.Opening.{path_legal}
use Rattle.records.specs.Opening.{opening_in}
use Rattle.opening.proofs.legality.paths_legal.Goals as goal

pub returns : goal.returns
returns c =
    let test = path_legal (opening_in c.args.o.now) in
    all_counted test _ _ c.all.ensures.ran (λ k b q called. search rules) ∙ ap (λ n. all_below n test) c.paths.ensures
