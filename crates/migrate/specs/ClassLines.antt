-- Class lines taken apart: a column of 64 numbers to a field.
use Rattle.std.specs.Prelude.{ℕ, List, get_or}
use Rattle.tariff.specs.Sizes.{max_class_lines}
use Rattle.tariff.specs.Sum.{tabulate}
use Rattle.netting.specs.declared.netting.ClassLine.{ClassLine}
use Rattle.migrate.specs.declared.class_lines.Columns.{Columns}

-- what stands past the end of a list of lines
abbrev pub no_line : ClassLine
no_line = record { from = 0; to = 0; class = 0; customers = 0; watts = 0 }

-- a field of the lines, as a column
unfoldable pub column_of : List ClassLine → (ClassLine → ℕ) → List ℕ
column_of lines field = tabulate max_class_lines (λ k. field (get_or lines k no_line))

unfoldable pub taken_apart : List ClassLine → Columns
taken_apart lines =
    record {
      froms = column_of lines (λ l. l.from);
      tos = column_of lines (λ l. l.to);
      classes = column_of lines (λ l. l.class);
      customers = column_of lines (λ l. l.customers);
      watts = column_of lines (λ l. l.watts);
    }
