-- The requests that a book takes: nine calls and three queries (01, Posting, Migration, Tiers; 02, 1/14). Every number is allowed; the causes say which are refused.
use Rattle.std.specs.Prelude.{ℕ, List}
use Rattle.load_metric.specs.declared.block.Block.{Block}
use Rattle.netting.specs.declared.netting.ClassLine.{ClassLine}

pub data Call : Type 0 where
  load : (holder sink term contract hours : ℕ) → List Block → Call
  carry : (holder path kw : ℕ) → Call
  prior : (holder path allocated long_term : ℕ) → Call
  verify : (holder source kind capacity right first last mark : ℕ) → Call
  migrate : (term sink : ℕ) → List ClassLine → Call
  open_tier : (tier : ℕ) → Call
  nominate : (holder path kw : ℕ) → Call
  award : (holder path kw : ℕ) → Call
  close_tier : Call

pub data Query : Type 0 where
  limit_of : (holder sink : ℕ) → Query
  held_on : (holder path month : ℕ) → Query
  net_on : (path month : ℕ) → Query
