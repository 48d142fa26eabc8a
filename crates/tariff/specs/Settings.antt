-- The fractions that a book is opened with (02, 3/14).
use Rattle.std.specs.Prelude.{ℕ, ◌+◌, ◌*◌, ◌/◌, Bool, ◌&&◌, List, [], ◌∷◌, get_or, leb}
use Rattle.tariff.specs.declared.settings.Fraction.{Fraction}
use Rattle.tariff.specs.declared.settings.Settings.{Settings}
use Rattle.tariff.specs.Sizes.{max_fraction}

-- a fraction of a number, rounded down
unfoldable pub part_of : Fraction → ℕ → ℕ
part_of f x = f.numerator * x / f.denominator

-- numerator 0 to 1,000, denominator 1 to 1,000, the numerator not above the denominator
unfoldable pub fraction_legal : Fraction → Bool
fraction_legal f = leb f.numerator max_fraction && (leb 1 f.denominator && leb f.denominator max_fraction) && leb f.numerator f.denominator

unfoldable pub settings_legal : Settings → Bool
settings_legal s =
    fraction_legal s.seasonal
    && fraction_legal s.priority
    && fraction_legal s.exceedance
    && fraction_legal s.missing
    && fraction_legal s.without_evidence
    && fraction_legal s.with_evidence

-- a numerator and the denominator after it, from a place of a list on
unfoldable pub fraction_at : ℕ → List ℕ → Fraction
fraction_at k numbers = record { numerator = get_or numbers k 0; denominator = get_or numbers (k + 1) 0 }

-- six pairs, in the order of the set line
unfoldable pub settings_of : List ℕ → Settings
settings_of numbers =
    record {
      seasonal = fraction_at 0 numbers;
      priority = fraction_at 2 numbers;
      exceedance = fraction_at 4 numbers;
      missing = fraction_at 6 numbers;
      without_evidence = fraction_at 8 numbers;
      with_evidence = fraction_at 10 numbers;
    }

-- the figures that hold without a set line: 3/4, 2/3, 1/200, 1/50, 1/5 and 1/2
unfoldable pub present_settings : Settings
present_settings = settings_of (3 ∷ 4 ∷ 2 ∷ 3 ∷ 1 ∷ 200 ∷ 1 ∷ 50 ∷ 1 ∷ 5 ∷ 1 ∷ 2 ∷ [])

-- the six pairs as numbers
unfoldable pub settings_numbers : Settings → List ℕ
settings_numbers s =
    s.seasonal.numerator
    ∷ s.seasonal.denominator
    ∷ s.priority.numerator
    ∷ s.priority.denominator
    ∷ s.exceedance.numerator
    ∷ s.exceedance.denominator
    ∷ s.missing.numerator
    ∷ s.missing.denominator
    ∷ s.without_evidence.numerator
    ∷ s.without_evidence.denominator
    ∷ s.with_evidence.numerator
    ∷ s.with_evidence.denominator
    ∷ []
