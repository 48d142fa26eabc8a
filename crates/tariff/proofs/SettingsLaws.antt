-- Settings and the twelve numbers that they are kept in. Assumes nothing.
use Prim.Native.Nat.{ℕ, ◌<◌}
use mathlib.Core.Path.{◌≡◌, refl}
use mathlib.Core.List.{List}
use native.Mathlib.Omega.{arith}
use lib.ListN.{get_or}
use Rattle.tariff.specs.declared.settings.Settings.{Settings}
use Rattle.tariff.specs.Sizes.{setting_count}
use Rattle.tariff.specs.Settings.{fraction_at, settings_of, settings_numbers}

-- the same twelve numbers make the same settings
pub settings_ext : (xs ys : List ℕ) → ((k : ℕ) → k < setting_count → get_or xs k 0 ≡ get_or ys k 0) → settings_of xs ≡ settings_of ys
unfolding settings_of fraction_at
settings_ext xs ys e =
    λ i.
    record {
      seasonal = record { numerator = e 0 (omega arith) i; denominator = e 1 (omega arith) i };
      priority = record { numerator = e 2 (omega arith) i; denominator = e 3 (omega arith) i };
      exceedance = record { numerator = e 4 (omega arith) i; denominator = e 5 (omega arith) i };
      missing = record { numerator = e 6 (omega arith) i; denominator = e 7 (omega arith) i };
      without_evidence = record { numerator = e 8 (omega arith) i; denominator = e 9 (omega arith) i };
      with_evidence = record { numerator = e 10 (omega arith) i; denominator = e 11 (omega arith) i };
    }

-- and settings are back from their numbers
pub settings_back : (s : Settings) → settings_of (settings_numbers s) ≡ s
unfolding settings_of fraction_at settings_numbers
settings_back s = refl
