-- The numbers of the causes that the tariff's rules on numbers can meet (01, Refusals by cause); the ledger has the others.
use Rattle.std.specs.Prelude.{ℕ}

-- an unreadable line, or lists of unequal length
abbrev pub unreadable : ℕ
unreadable = 1

-- another field is outside its range
abbrev pub out_of_range : ℕ
out_of_range = 3

-- the block list is broken, or there is no block
abbrev pub broken_blocks : ℕ
broken_blocks = 6

-- too many hours are missing
abbrev pub hours_missing : ℕ
hours_missing = 7
