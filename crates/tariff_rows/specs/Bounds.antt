-- What a share and a transfer rest on, as the program finds it by looking.
use Rattle.std.specs.Prelude.{ℕ, ◌<◌, ◌≤◌, ◌^◌, List, length, get_or}
use Rattle.tariff.specs.Sum.{sum_to}
use Rattle.netting.specs.Migration.{lost_by}
use Rattle.netting.specs.Netting.{pair_at, holder_at}

-- each number of a list is below 2^31
abbrev pub Moderate : List ℕ → Type 0
Moderate xs = (k : ℕ) → k < length xs → get_or xs k 0 < 2 ^ 31

-- no holder loses more than its load: cause 9 does not hold
abbrev pub WithinLoad : List ℕ → List ℕ → Type 0
WithinLoad m load = (i : ℕ) → i < 8 → lost_by 8 (pair_at m) i ≤ holder_at load i

-- what each of eight holders gives fits 64 bits
abbrev pub GivenFits : List ℕ → Type 0
GivenFits parts = (i : ℕ) → i < 8 → sum_to 8 (λ j. pair_at parts i j) < 2 ^ 64
