-- What a book is opened with, and when that is legal (01, The book, and cause 16; 02, 3/14).
use Rattle.std.specs.Prelude.{ℕ, Bool, cond, not, ◌&&◌, ◌||◌, List, length, get_or, leb, ltb, eqb}
use Rattle.tariff.specs.declared.settings.Settings.{Settings}
use Rattle.tariff.specs.Sizes.{max_holders, max_places}
use Rattle.tariff.specs.Sum.{all_below, any_below}
use Rattle.tariff.specs.Settings.{settings_legal}
use Rattle.ledger.specs.Numbers.{breaks_rules}

-- the counts, for each holder, sink and path what stands on its line, and the fractions of the rules (02, 3/14)
pub record Opening : Type 0 where
  pub holders : ℕ
  pub sources : ℕ
  pub sinks : ℕ
  pub paths : ℕ
  pub holder_kinds : List ℕ
  pub sink_kinds : List ℕ
  pub sink_parents : List ℕ
  pub path_sources : List ℕ
  pub path_sinks : List ℕ
  pub settings : Settings

-- holder kind 1 is a load-serving entity (LSE), 2 a qualified entity outside the balancing area (OBAALSE)
abbrev pub lse : ℕ
lse = 1

abbrev pub obaalse : ℕ
obaalse = 2

-- sink kind 1 is a Default LAP, 2 a Sub-LAP, 3 a custom LAP or node, 4 a scheduling point
abbrev pub default_lap : ℕ
default_lap = 1

abbrev pub sub_lap : ℕ
sub_lap = 2

abbrev pub scheduling_point : ℕ
scheduling_point = 4

unfoldable pub holder_kind : Opening → ℕ → ℕ
holder_kind o h = get_or o.holder_kinds h 0

unfoldable pub sink_kind : Opening → ℕ → ℕ
sink_kind o s = get_or o.sink_kinds s 0

-- the sink that a sink names: a Sub-LAP's parent, any other sink itself
unfoldable pub base : Opening → ℕ → ℕ
base o s = get_or o.sink_parents s 0

unfoldable pub path_source : Opening → ℕ → ℕ
path_source o p = get_or o.path_sources p 0

unfoldable pub path_sink : Opening → ℕ → ℕ
path_sink o p = get_or o.path_sinks p 0

-- the base of a path's sink
unfoldable pub path_base : Opening → ℕ → ℕ
path_base o p = base o (path_sink o p)

-- the path's sink has this base
unfoldable pub has_base : Opening → ℕ → ℕ → Bool
has_base o b p = eqb (path_base o p) b

-- the path comes from this source
unfoldable pub has_source : Opening → ℕ → ℕ → Bool
has_source o s p = eqb (path_source o p) s

-- at most 8 holders, 16 sources, 16 sinks and 16 paths; none of a kind is allowed
unfoldable pub counts_fit : Opening → Bool
counts_fit o = leb o.holders max_holders && leb o.sources max_places && leb o.sinks max_places && leb o.paths max_places

-- each list has as many entries as are counted
unfoldable pub lists_fit : Opening → Bool
lists_fit o =
    eqb (length o.holder_kinds) o.holders
    && eqb (length o.sink_kinds) o.sinks
    && eqb (length o.sink_parents) o.sinks
    && eqb (length o.path_sources) o.paths
    && eqb (length o.path_sinks) o.paths

unfoldable pub holder_legal : Opening → ℕ → Bool
holder_legal o h = eqb (holder_kind o h) lse || eqb (holder_kind o h) obaalse

-- a Sub-LAP names a lower-numbered parent that is a Default LAP
unfoldable pub parent_legal : Opening → ℕ → Bool
parent_legal o s = ltb (base o s) s && eqb (sink_kind o (base o s)) default_lap

-- a sink's kind is 1 to 4; a Sub-LAP has a parent, any other sink names itself
unfoldable pub sink_legal : Opening → ℕ → Bool
sink_legal o s = leb default_lap (sink_kind o s) && leb (sink_kind o s) scheduling_point && cond (eqb (sink_kind o s) sub_lap) (parent_legal o s) (eqb (base o s) s)

-- a path's source and sink are in the book
unfoldable pub path_legal : Opening → ℕ → Bool
path_legal o p = ltb (path_source o p) o.sources && ltb (path_sink o p) o.sinks

-- two paths share both source and sink
unfoldable pub paths_alike : Opening → ℕ → ℕ → Bool
paths_alike o p q = eqb (path_source o p) (path_source o q) && eqb (path_sink o p) (path_sink o q)

-- a path is like none before it
unfoldable pub path_new : Opening → ℕ → Bool
path_new o p = not (any_below p (paths_alike o p))

-- the opening breaks no rule
unfoldable pub legal : Opening → Bool
legal o =
    counts_fit o
    && lists_fit o
    && all_below o.holders (holder_legal o)
    && all_below o.sinks (sink_legal o)
    && all_below o.paths (path_legal o)
    && all_below o.paths (path_new o)
    && settings_legal o.settings

-- cause 16: a kind, parent, path, count or fraction breaks the rules; 0 for a legal opening
unfoldable pub opening_refusal : Opening → ℕ
opening_refusal o = cond (legal o) 0 breaks_rules
