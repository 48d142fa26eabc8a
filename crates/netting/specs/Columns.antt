-- Class lines whose fields stand in five lent slices.
use Rattle.std.specs.Prelude.{ℕ, Bool, List, Option}
use Rattle.netting.specs.declared.netting.ClassLine.{ClassLine}
use Rattle.netting.specs.declared.netting.ClassColumns.{ClassColumns}
use Rattle.netting.specs.Netting.{SameLengths, same_counts, SummableLines, class_line_at, class_lines_of, lines_fit, watts_to, netting_of}

abbrev pub line_in : ClassColumns → ℕ → ClassLine
line_in c k = class_line_at c.froms.now c.tos.now c.classes.now c.customers.now c.watts.now k

abbrev pub lines_in : ClassColumns → List ClassLine
lines_in c = class_lines_of c.froms.now c.tos.now c.classes.now c.customers.now c.watts.now

abbrev pub SameLengthsIn : ClassColumns → Type 0
SameLengthsIn c = SameLengths c.froms.now c.tos.now c.classes.now c.customers.now c.watts.now

abbrev pub same_counts_in : ClassColumns → Bool
same_counts_in c = same_counts c.froms.now c.tos.now c.classes.now c.customers.now c.watts.now

abbrev pub fit_in : ClassColumns → Bool
fit_in c = lines_fit c.froms.now c.tos.now c.classes.now c.customers.now c.watts.now

abbrev pub SummableIn : ClassColumns → Type 0
SummableIn c = SummableLines c.froms.now c.tos.now c.customers.now c.watts.now

abbrev pub watts_in : ClassColumns → ℕ → ℕ → ℕ → ℕ
watts_in c n i j = watts_to c.froms.now c.tos.now c.customers.now c.watts.now n i j

abbrev pub netting_in : ClassColumns → Option (List ℕ)
netting_in c = netting_of c.froms.now c.tos.now c.classes.now c.customers.now c.watts.now
