-- `migrate::class_tests::any_unknown` meets its contract: the test on each line is that of the definition. Assumes nothing.
use Rattle.std.proofs.Common.{rules, ◌||◌}
use Rattle.records.specs.Opening.{opening_in}
use Rattle.ledger.specs.Ranges.{unknown_holder, unknown_holder_in}
use Rattle.migrate.proofs.class_tests.any_unknown.Goals as goal

pub returns : goal.returns
unfolding unknown_holder_in
returns c = c.any.ensures (λ l. unknown_holder (opening_in c.args.o.now) l.from || unknown_holder (opening_in c.args.o.now) l.to) (λ line r called. search rules)
