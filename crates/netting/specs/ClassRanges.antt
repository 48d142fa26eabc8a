-- Ranges of a class line's numbers (cause 3).
use Rattle.std.specs.Prelude.{ℕ, Bool, not, ◌||◌, ltb}
use Rattle.tariff.specs.Sizes.{last_class, max_customers, max_watts}
use Rattle.tariff.specs.Ranges.{within}
use Rattle.netting.specs.declared.netting.ClassLine.{ClassLine}

-- a class line: class 1 to 8, customers and average watts up to 9,999,999
unfoldable pub class_fields_out_of_range : ℕ → ℕ → ℕ → Bool
class_fields_out_of_range class customers watts = not (within 1 last_class class) || ltb max_customers customers || ltb max_watts watts

unfoldable pub class_line_out_of_range : ClassLine → Bool
class_line_out_of_range l = class_fields_out_of_range l.class l.customers l.watts
