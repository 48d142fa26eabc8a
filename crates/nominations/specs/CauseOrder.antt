-- How many of a nomination's causes come before others, by their order (01, Refusals by cause; 02, 1/14 and 2/14).
use Rattle.std.specs.Prelude.{ℕ}

-- 2, 3, 4, 10, 19, 11 and 12 come before those of the Long Term step
abbrev pub causes_before_step : ℕ
causes_before_step = 7
