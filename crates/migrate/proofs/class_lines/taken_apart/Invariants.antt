-- `migrate::class_lines::taken_apart`: so far the lines that the loop has passed are taken apart. Assumes nothing.
use Rattle.std.proofs.Common.{◌≡◌, take}
use Rattle.migrate.specs.ClassLines.{taken_apart}
use Rattle.migrate.proofs.class_lines.taken_apart.Given as goal

abbrev pub invariant-loop-k : goal.invariant-loop-k
invariant-loop-k l = l.all ≡ taken_apart (take l.k l.lines)
