-- Blocks whose numbers stand in three lent slices, and what a list of them gives.
use Rattle.std.specs.Prelude.{ℕ, ◌≡◌, Bool, ◌&&◌, List, [], ◌∷◌, get_or, eqb, length, Option, Result}
use Rattle.std.specs.Bool.{then_some}
use Rattle.tariff.specs.declared.settings.Settings.{Settings}
use Rattle.load_metric.specs.declared.block.Block.{Block}
use Rattle.load_metric.specs.declared.columns.BlockColumns.{BlockColumns}
use Rattle.load_metric.specs.declared.load.BlockError.{BlockError}
use Rattle.load_metric.specs.Metering.{metric_or_cause, load_or_cause}

-- a block is a first hour, a length and a kW (01, Posting, Load): three lists, read side by side as far as the shortest goes
unfoldable pub blocks_of : List ℕ → List ℕ → List ℕ → List Block
blocks_of [] hs ks = []
blocks_of (f ∷ fs) [] ks = []
blocks_of (f ∷ fs) (h ∷ hs) [] = []
blocks_of (f ∷ fs) (h ∷ hs) (k ∷ ks) = record { first = f; hours = h; kw = k } ∷ blocks_of fs hs ks

-- no block lacks one of its three numbers; a list that has one short is taken as an unreadable line (01, cause 1)
unfoldable pub same_lengths : List ℕ → List ℕ → List ℕ → Bool
same_lengths fs hs ks = eqb (length fs) (length hs) && eqb (length hs) (length ks)

-- each list has as many numbers as the first
pub record SameLengths (fs hs ks : List ℕ) : Type 0 where
  pub of_hours : length hs ≡ length fs
  pub of_kws : length ks ≡ length fs

-- the metric of the blocks, or why they are refused; nothing where the lists differ in length
unfoldable pub metric_of_columns : Settings → List ℕ → List ℕ → List ℕ → ℕ → Option (Result ℕ BlockError)
metric_of_columns settings fs hs ks n = then_some (same_lengths fs hs ks) (metric_or_cause settings (blocks_of fs hs ks) n)

-- and the load posted
unfoldable pub posted_of_columns : Settings → List ℕ → List ℕ → List ℕ → ℕ → ℕ → Option (Result ℕ BlockError)
posted_of_columns settings fs hs ks n contract = then_some (same_lengths fs hs ks) (load_or_cause settings (blocks_of fs hs ks) n contract)

-- the same of lent columns

abbrev pub block_in : BlockColumns → ℕ → Block
block_in c k = record { first = get_or c.firsts.now k 0; hours = get_or c.hours.now k 0; kw = get_or c.kws.now k 0 }

abbrev pub blocks_in : BlockColumns → List Block
blocks_in c = blocks_of c.firsts.now c.hours.now c.kws.now

abbrev pub same_lengths_in : BlockColumns → Bool
same_lengths_in c = same_lengths c.firsts.now c.hours.now c.kws.now

abbrev pub SameLengthsIn : BlockColumns → Type 0
SameLengthsIn c = SameLengths c.firsts.now c.hours.now c.kws.now

abbrev pub metric_in : Settings → BlockColumns → ℕ → Option (Result ℕ BlockError)
metric_in settings c n = metric_of_columns settings c.firsts.now c.hours.now c.kws.now n

abbrev pub posted_in : Settings → BlockColumns → ℕ → ℕ → Option (Result ℕ BlockError)
posted_in settings c n contract = posted_of_columns settings c.firsts.now c.hours.now c.kws.now n contract
