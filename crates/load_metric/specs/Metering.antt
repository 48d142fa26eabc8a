-- What a block list gives: a kW, or the cause of its refusal (01, Posting, Load; Refusals by cause).
use Rattle.std.specs.Prelude.{ℕ, cond, List, eqb, Result, Ok, Err}
use Rattle.load_metric.specs.declared.block.Block.{Block}
use Rattle.load_metric.specs.declared.load.BlockError.{BlockError}
use Rattle.load_metric.specs.declared.load.BlockError.TheVariants.{Broken, Missing}
use Rattle.tariff.specs.declared.settings.Settings.{Settings}
use Rattle.tariff.specs.Numbers.{broken_blocks, hours_missing}
use Rattle.load_metric.specs.Load.{blocks_broken, too_many_missing, metric, load_posted}

-- the error that stands for a refusal number of 01, and the kW where the number is 0
unfoldable pub metering_by : ℕ → ℕ → Result ℕ BlockError
metering_by number kw = cond (eqb number broken_blocks) (Err Broken) (cond (eqb number hours_missing) (Err Missing) (Ok kw))

-- the block list broken or empty is cause 6, too many hours missing is cause 7, and the lower number decides; 0 for none (01, Refusals by cause)
unfoldable pub block_refusal : Settings → ℕ → List Block → ℕ
block_refusal settings n bs = cond (blocks_broken n bs) broken_blocks (cond (too_many_missing settings n bs) hours_missing 0)

unfoldable pub unless_refused : Settings → ℕ → List Block → ℕ → Result ℕ BlockError
unless_refused settings n bs kw = metering_by (block_refusal settings n bs) kw

-- the metric: the smallest kW among the blocks that is exceeded in few enough of the present hours (01, Posting, Load)
unfoldable pub metric_or_cause : Settings → List Block → ℕ → Result ℕ BlockError
metric_or_cause settings bs n = unless_refused settings n bs (metric settings bs)

-- the load posted: contract load comes off the metric, not below 0 (01, Posting, Load; house)
unfoldable pub load_or_cause : Settings → List Block → ℕ → ℕ → Result ℕ BlockError
load_or_cause settings bs n contract = unless_refused settings n bs (load_posted settings contract bs)
