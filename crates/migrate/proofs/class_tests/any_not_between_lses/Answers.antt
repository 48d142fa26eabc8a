-- `migrate::class_tests::any_not_between_lses` meets its contract: the test on each line is that of the definition. Assumes nothing.
use Rattle.std.proofs.Common.{rules}
use Rattle.records.specs.Opening.{opening_in}
use Rattle.ledger.specs.Causes.{line_not_between_lses}
use Rattle.migrate.proofs.class_tests.any_not_between_lses.Goals as goal

pub returns : goal.returns
returns c = c.any.ensures (line_not_between_lses (opening_in c.args.o.now)) (λ line r called. search rules)
