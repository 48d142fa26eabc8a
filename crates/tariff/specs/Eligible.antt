-- Eligible quantities of a load, by the fractions of the book's settings (01, Limits; 02, 1/14 and 3/14).
use Rattle.std.specs.Prelude.{ℕ}
use Rattle.tariff.specs.declared.settings.Settings.{Settings}
use Rattle.tariff.specs.Settings.{part_of}

-- S: the first fraction of the load, 3/4 at present, rounded down
unfoldable pub seasonal_eligible : Settings → ℕ → ℕ
seasonal_eligible settings load = part_of settings.seasonal load

-- P: the second fraction of that S, 2/3 at present, rounded down
unfoldable pub priority_eligible : Settings → ℕ → ℕ
priority_eligible settings load = part_of settings.priority (seasonal_eligible settings load)

-- the part of a load that needs no ten-year evidence in the Long Term step: the fifth fraction, 1/5 at present, rounded down (02, 1/14)
unfoldable pub eligible_without_evidence : Settings → ℕ → ℕ
eligible_without_evidence settings load = part_of settings.without_evidence load

-- the most of a load that the Long Term step comes to with such evidence: the sixth fraction, 1/2 at present, rounded down (02, 1/14); it caps tier 1
-- too (02, 3/14)
unfoldable pub eligible_with_evidence : Settings → ℕ → ℕ
eligible_with_evidence settings load = part_of settings.with_evidence load
