-- How many of the causes of a nomination or an award come before others, by their order (01, Refusals by cause; 02, 1/14 and 2/14).
use Rattle.std.specs.Prelude.{ℕ}

-- 2, 3 and 4 come before those that an open tier is looked at for
abbrev pub causes_before_tier : ℕ
causes_before_tier = 3
