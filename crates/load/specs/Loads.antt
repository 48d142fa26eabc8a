-- The load that a caller posts, and the test on its blocks.
use Rattle.std.specs.Prelude.{ℕ, Bool, ltb}
use Rattle.load_metric.specs.declared.block.Block.{Block}
use Rattle.load_metric.specs.Columns.{blocks_in}
use Rattle.load.specs.declared.metered.Metered.{Metered}
use Rattle.load.specs.declared.metered.MeteredColumns.{MeteredColumns}
use Rattle.ledger.specs.Call.{Call, load}
use Rattle.tariff.specs.Ranges.{max_kw}

-- a block's kW exceeds the most
unfoldable pub exceeds_max_kw : Block → Bool
exceeds_max_kw b = ltb max_kw b.kw

-- the call of 01 that posts what is metered
abbrev pub load_of : (h s : ℕ) → Metered → Call
load_of h s g = load h s g.term g.contract g.n g.blocks.now

-- and the call that posts what is metered in columns: a load of the blocks that they are side by side
abbrev pub load_of_columns : (h s : ℕ) → MeteredColumns → Call
load_of_columns h s g = load h s g.term g.contract g.n (blocks_in g.columns)
