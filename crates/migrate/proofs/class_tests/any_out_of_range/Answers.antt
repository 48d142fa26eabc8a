-- `migrate::class_tests::any_out_of_range` meets its contract: the test on each line is that of the definition. Assumes nothing.
use Rattle.std.proofs.Common.{rules}
use Rattle.netting.specs.ClassRanges.{class_line_out_of_range}
use Rattle.migrate.proofs.class_tests.any_out_of_range.Goals as goal

pub returns : goal.returns
returns c = c.any.ensures (class_line_out_of_range) (λ line r called. search rules)
