-- Groups: a head and the lines that it counts, and the request that they make (01, Script and host).
use Rattle.std.specs.Prelude.{ℕ, zero, suc, Bool, cond, ◌&&◌, List, [], ◌∷◌, map, length, take, drop}
use Rattle.ledger.specs.Opening.{Opening}
use Rattle.ledger.specs.Call.{load, carry, prior, verify, migrate, open_tier, nominate, award, close_tier, limit_of, held_on, net_on}
use Rattle.ledger.specs.Season.{Request, call, query}
use Rattle.lines.specs.declared.rows.Row.{Row}
use Rattle.lines.specs.declared.rows.LineKind.{LineKind}
use Rattle.lines.specs.declared.rows.LineKind.TheVariants.{Book, Holder, Sink, Path, Load, Block as BlockLine, Carry, Prior, Verify, Migrate, Class, Open, Nominate, Award, Close, Limit, Held, Net}
use Rattle.lines.specs.Rows.{same_kind, field, counted, holder_rows, sink_rows, path_rows, set_readable, settings_of_rows, book_line_count}
use Rattle.counted_lines.specs.Counted.{block_of, class_line_of}

-- a group as it is read: a request, or unreadable where a line of it is unreadable or absent
pub data Group : Type 0 where
  unreadable_group : Group
  request : Request → Group

-- for a kind of head, the group that it makes
pub data Case : Type 0 where
  case : LineKind → Group → Case

-- a kind that is not listed is unreadable: a second book, or a line that no head counts
unfoldable pub lookup : LineKind → List Case → Group
lookup kind [] = unreadable_group
lookup kind (case known what ∷ later) = cond (same_kind kind known) what (lookup kind later)

-- load and migrate end in a count of the lines that follow
unfoldable pub lines_counted : Row → ℕ
lines_counted r = cond (same_kind r.kind Load) (field 5 r) (cond (same_kind r.kind Migrate) (field 2 r) 0)

unfoldable pub when_complete : Bool → Request → Group
when_complete is_complete req = cond is_complete (request req) unreadable_group

-- a head with the lines that belong to it
unfoldable pub request_of : Row → List Row → Group
request_of r lines =
    lookup r.kind
    (case Load (when_complete (counted BlockLine (field 5 r) lines) (call (load (field 0 r) (field 1 r) (field 2 r) (field 3 r) (field 4 r) (map block_of lines))))
    ∷ case Carry (request (call (carry (field 0 r) (field 1 r) (field 2 r))))
    ∷ case Prior (request (call (prior (field 0 r) (field 1 r) (field 2 r) (field 3 r))))
    ∷ case Verify (request (call (verify (field 0 r) (field 1 r) (field 2 r) (field 3 r) (field 4 r) (field 5 r) (field 6 r) (field 7 r))))
    ∷ case Migrate (when_complete (counted Class (field 2 r) lines) (call (migrate (field 0 r) (field 1 r) (map class_line_of lines))))
    ∷ case Open (request (call (open_tier (field 0 r))))
    ∷ case Nominate (request (call (nominate (field 0 r) (field 1 r) (field 2 r))))
    ∷ case Award (request (call (award (field 0 r) (field 1 r) (field 2 r))))
    ∷ case Close (request (call close_tier))
    ∷ case Limit (request (query (limit_of (field 0 r) (field 1 r))))
    ∷ case Held (request (query (held_on (field 0 r) (field 1 r) (field 2 r))))
    ∷ case Net (request (query (net_on (field 0 r) (field 1 r))))
    ∷ [])

-- the groups of rows, at most so many: a head and the lines that it counts, or all lines left if fewer
unfoldable pub groups_from : ℕ → List Row → List Group
groups_from zero rows = []
groups_from (suc most) [] = []
groups_from (suc most) (r ∷ rows) = request_of r (take (lines_counted r) rows) ∷ groups_from most (drop (lines_counted r) rows)

-- there are no more groups than rows
unfoldable pub groups_of : List Row → List Group
groups_of rows = groups_from (length rows) rows

-- the book group: its head and the rows after that; a set line directly after the lines that the head counts is of the group (02, 3/14)
module _ (head : Row) (rows : List Row) where
  unfoldable pub book_readable : Bool
  book_readable =
      same_kind head.kind Book
      && counted Holder (field 0 head) (holder_rows head rows)
      && counted Sink (field 2 head) (sink_rows head rows)
      && counted Path (field 3 head) (path_rows head rows)
      && set_readable head rows

  unfoldable pub opening_of_rows : Opening
  opening_of_rows =
      record {
        holders = field 0 head;
        sources = field 1 head;
        sinks = field 2 head;
        paths = field 3 head;
        holder_kinds = map (field 0) (holder_rows head rows);
        sink_kinds = map (field 0) (sink_rows head rows);
        sink_parents = map (field 1) (sink_rows head rows);
        path_sources = map (field 0) (path_rows head rows);
        path_sinks = map (field 1) (path_rows head rows);
        settings = settings_of_rows head rows;
      }

  -- the rows after the book group
  unfoldable pub call_rows : List Row
  call_rows = drop (book_line_count head rows) rows
