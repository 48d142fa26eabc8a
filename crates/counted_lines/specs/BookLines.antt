-- The lines of the book group after its head: those that the head counts, read one kind after another (01, Script and host), and the set line (02, 3/14).
use Rattle.std.specs.Prelude.{ℕ, Bool, cond, ◌&&◌, Option, Some, None, List, map, replicate}
use Rattle.tariff.specs.declared.settings.Settings.{Settings}
use Rattle.tariff.specs.Sizes.{max_places}
use Rattle.records.specs.Opening.{no_sink, no_path}
use Rattle.lines.specs.declared.rows.Row.{Row}
use Rattle.counted_lines.specs.declared.book_lines.SetLine.{SetLine}
use Rattle.counted_lines.specs.declared.book_lines.BookLists.{BookLists}
use Rattle.counted_lines.specs.declared.book_lines.BookLines.{BookLines}
use Rattle.counted_lines.specs.declared.book_lines.ReadLists.{ReadLists}
use Rattle.lines.specs.declared.rows.LineKind.TheVariants.{Holder, Sink, Path}
use Rattle.lines.specs.Rows.{rows_of, field, counted, holder_rows, sink_rows, path_rows, set_count, not_broken, settings_on, set_readable, settings_of_rows, book_line_count}
use Rattle.lines.specs.Reading.{next_row}
use Rattle.counted_lines.specs.Counted.{bytes_of_lines, sink_line_of, path_line_of, with_lines}

-- the first 16 of some lines, and blank ones past the last
unfoldable pub first_lines : {T : Type 0} → T → List T → List T
first_lines blank lines = with_lines lines (replicate max_places blank)

-- the fractions of a row after the book lines, none where it is a set line that cannot be read (02, 3/14)
unfoldable pub settings_read : Row → Option Settings
settings_read r = cond (not_broken r) (Some (settings_on r)) None

-- the set line that may stand where bytes begin: its fractions, and how many bytes it takes (02, 3/14)
unfoldable pub set_line_of : List ℕ → SetLine
set_line_of rest =
    record {
      settings = settings_read (next_row rest).row;
      consumed = bytes_of_lines (set_count (next_row rest).row) rest;
    }

module _ (head : Row) (rows : List Row) where
  -- the lines that a book head counts are there, each of its kind, and a set line after them can be read
  unfoldable pub book_lines_complete : Bool
  book_lines_complete =
      counted Holder (field 0 head) (holder_rows head rows)
      && counted Sink (field 2 head) (sink_rows head rows)
      && counted Path (field 3 head) (path_rows head rows)
      && set_readable head rows

  -- what stands on them
  unfoldable pub book_lists_of : BookLists
  book_lists_of =
      record {
        holder_kinds = first_lines 0 (map (field 0) (holder_rows head rows));
        sink_lines = first_lines no_sink (map sink_line_of (sink_rows head rows));
        path_lines = first_lines no_path (map path_line_of (path_rows head rows));
        settings = settings_of_rows head rows;
      }

-- what stands there, whether it is complete, and how many bytes it takes
unfoldable pub read_lists_of : Row → List ℕ → ReadLists
read_lists_of head rest =
    record {
      lists = book_lists_of head (rows_of rest);
      complete = book_lines_complete head (rows_of rest);
      consumed = bytes_of_lines (book_line_count head (rows_of rest)) rest;
    }

-- what stands on them, where they are complete, and how many bytes they take
unfoldable pub book_lines_of : Row → List ℕ → BookLines
book_lines_of head rest =
    record {
      lists = cond (book_lines_complete head (rows_of rest)) (Some (book_lists_of head (rows_of rest))) None;
      consumed = bytes_of_lines (book_line_count head (rows_of rest)) rest;
    }
