-- `migrate::class_lines::taken_apart` meets its contract: each line's fields go to their places of the columns. Assumes nothing.
use Rattle.std.proofs.Common.{refl}
use Rattle.tariff.specs.Sum.{tabulate}
use Rattle.migrate.specs.ClassLines.{column_of, taken_apart}
use Rattle.migrate.proofs.ColumnSteps.{line_more}
use Rattle.migrate.proofs.class_lines.taken_apart.Goals as goal

pub loop-k-init : goal.loop-k-init
unfolding taken_apart column_of tabulate
loop-k-init c = refl

pub loop-k-preserved : goal.loop-k-preserved
loop-k-preserved c = line_more c.args.lines.now c.loop-k.k c.loop-k.all c.loop-k-test.true c.requires c.loop-k.invariant
