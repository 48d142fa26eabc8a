-- What a migration moves (01, Migration). Holders are numbered; `m i j` is the kW that go from holder i to holder j.
use Rattle.std.specs.Prelude.{ℕ, ◌+◌, ◌*◌, ◌-◌, ◌/◌, ◌&&◌, List, eqb}
use Rattle.netting.specs.declared.netting.ClassLine.{ClassLine}
use Rattle.tariff.specs.Sizes.{watts_per_kw}
use Rattle.tariff.specs.Sum.{when_true, sum_to, sum_over}

-- the watts that left holder i for holder j: customers × average watts, summed over the lines of every class
unfoldable pub watts_one_way : List ClassLine → ℕ → ℕ → ℕ
watts_one_way lines i j = sum_over lines (λ l. when_true (eqb l.from i && eqb l.to j) (l.customers * l.watts))

-- m: what is left of the larger way after the smaller is taken off, in kW rounded down. 0 from the gainer to the loser
unfoldable pub netted : List ClassLine → ℕ → ℕ → ℕ
netted lines i j = (watts_one_way lines i j - watts_one_way lines j i) / watts_per_kw

-- a loser's m to all of n holders together
unfoldable pub lost_by : ℕ → (ℕ → ℕ → ℕ) → ℕ → ℕ
lost_by n m i = sum_to n (λ j. m i j)

-- the share of a record v that goes with m of the loser's load L (house), rounded down
unfoldable pub share : ℕ → ℕ → ℕ → ℕ
share v m L = v * m / L

-- the shares of a column of records, one to a holder: each from the loser's value before the call
unfoldable pub shares : (ℕ → ℕ → ℕ) → (ℕ → ℕ) → (ℕ → ℕ) → ℕ → ℕ → ℕ
shares m L v i j = share (v i) (m i j) (L i)

-- a column of n holders' records after the parts were transferred: each loses its parts to all and gains the others' parts for it
unfoldable pub transferred : ℕ → (ℕ → ℕ → ℕ) → (ℕ → ℕ) → ℕ → ℕ
transferred n part v i = v i - sum_to n (λ j. part i j) + sum_to n (λ j. part j i)
