-- What a migration transfers, and which columns of the figures take part (01, Migration).
use Rattle.records.specs.declared.setup.KeptOpening.{KeptOpening}
use Rattle.std.specs.Prelude.{ℕ, ◌+◌, ◌-◌, ◌*◌, ◌≤◌, ◌<◌, ◌≡◌, Bool, true, cond, ◌&&◌, ◌||◌, List, ◌⊎◌, leb, ltb, eqb}
use Rattle.tariff.specs.Sizes.{max_holders, max_places, last_term}
use Rattle.tariff.specs.Sum.{sum_to}
use Rattle.tariff.specs.Ranges.{max_kw}
use Rattle.netting.specs.Migration.{shares, transferred}
use Rattle.netting.specs.Netting.{pair_at, holder_at}
use Rattle.ledger.specs.Opening.{Opening, has_base}
use Rattle.records.specs.Opening.{opening_in, KeepsBases}
use Rattle.slots.specs.Layout.{load_slot, prior_allocated_slot, carried_slot, awarded_slot, nominated_slot}
use Rattle.slots.specs.Sums.{max_figure}
use Rattle.transfers.specs.declared.transfers.Transfer.{Transfer}
use Rattle.transfers.specs.Columns.{HasColumn, in_column}

-- a column after m was transferred, and after its shares were
unfoldable pub load_column : Transfer → (ℕ → ℕ) → ℕ → ℕ
load_column x v = transferred x.holders (pair_at x.m) v

unfoldable pub share_column : Transfer → (ℕ → ℕ) → ℕ → ℕ
share_column x v = transferred x.holders (shares (pair_at x.m) (holder_at x.load) v) v

-- the slots of a path that a migration moves: the season's are prior's a and a − l and the carried holdings, side by side; a month's are its carried
-- and its awarded holding
unfoldable pub slot_moves : (term slot : ℕ) → Bool
slot_moves term slot = cond (eqb term 0) (leb prior_allocated_slot slot && ltb slot awarded_slot) (eqb slot (carried_slot + term - 1) || eqb slot (awarded_slot + term - 1))

-- on the paths whose sink has the base
unfoldable pub moves_at : Opening → (term sink : ℕ) → (p slot : ℕ) → Bool
moves_at o term sink p slot = has_base o sink p && slot_moves term slot

-- one column where a test passes, any other as it is
unfoldable pub column_where : (ℕ → ℕ → Bool) → ((ℕ → ℕ) → ℕ → ℕ) → ℕ → ℕ → (ℕ → ℕ) → ℕ → ℕ
column_where takes_part column p slot v h = cond (takes_part p slot) (column v h) (v h)

-- the load of the sink and term
unfoldable pub load_at : (term sink : ℕ) → (p slot : ℕ) → Bool
load_at term sink p slot = eqb p sink && eqb slot (load_slot + term)

-- what is known of an accepted migration: at most eight holders, each loses no more than its load, and nobody else moves anything
pub record LossesWithinLoads (x : Transfer) : Type 0 where
  pub few : x.holders ≤ max_holders
  pub covered : (i : ℕ) → i < x.holders → sum_to x.holders (λ j. pair_at x.m i j) ≤ holder_at x.load i
  pub loads : sum_to x.holders (holder_at x.load) ≤ max_holders * max_kw
  pub others : (i j : ℕ) → i < max_holders → j < max_holders → (x.holders ≤ i) ⊎ (x.holders ≤ j) → pair_at x.m i j ≡ 0

-- the most kW that a column has together
abbrev pub ColumnFits : Transfer → (ℕ → ℕ) → Type 0
ColumnFits x v = sum_to x.holders v ≤ max_figure

-- a slot of a path whose column fits, if a migration moves it
pub record SlotFits (f : List ℕ) (p slot : ℕ) (x : Transfer) : Type 0 where
  pub column : HasColumn p slot
  pub in_term : x.term ≤ last_term
  pub covered : LossesWithinLoads x
  pub fits : slot_moves x.term slot ≡ true → ColumnFits x (in_column f p slot)

-- a path of which the rights and allocations can move
pub record PathFits (o : KeptOpening) (f : List ℕ) (x : Transfer) (p : ℕ) : Type 0 where
  pub bases : KeepsBases o
  pub in_term : x.term ≤ last_term
  pub covered : LossesWithinLoads x
  pub place : p < max_places
  pub fits : (slot : ℕ) → slot < nominated_slot → moves_at (opening_in o) x.term x.sink p slot ≡ true → ColumnFits x (in_column f p slot)

-- and every path
abbrev pub RightsFit : KeptOpening → List ℕ → Transfer → Type 0
RightsFit o f x = (p : ℕ) → p < max_places → PathFits o f x p
