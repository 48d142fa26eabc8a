-- What a line says: its kind, by its word and count of fields, and its numbers (01, Script and host).
use Rattle.std.specs.Prelude.{ℕ, ◌+◌, Bool, true, false, cond, not, ◌&&◌, ◌||◌, List, [], ◌∷◌, map, length, get_or, take, drop, eqb}
use Prim.Native.String.{String}
use Rattle.tariff.specs.Sum.{tabulate}
use Rattle.tariff.specs.declared.settings.Settings.{Settings}
use Rattle.tariff.specs.Settings.{settings_of, present_settings}
use Rattle.lines.specs.declared.rows.LineKind.{LineKind}
use Rattle.lines.specs.declared.rows.LineKind.TheVariants.{Unreadable, Book, Holder, Sink, Path, Load, Block, Carry, Prior, Verify, Migrate, Class, Open, Nominate, Award, Close, Limit, Held, Net, Set, BrokenSet}
use Rattle.lines.specs.declared.rows.Row.{Row}
use Rattle.lines.specs.Text.{bytes_of, Line, ended, unended, lines_of, fields_of, is_number, value_of}

-- the kinds of lines, numbered, so that two are compared by their numbers
abbrev pub kind_number : LineKind → ℕ
kind_number Unreadable = 0
kind_number Book = 1
kind_number Holder = 2
kind_number Sink = 3
kind_number Path = 4
kind_number Load = 5
kind_number Block = 6
kind_number Carry = 7
kind_number Prior = 8
kind_number Verify = 9
kind_number Migrate = 10
kind_number Class = 11
kind_number Open = 12
kind_number Nominate = 13
kind_number Award = 14
kind_number Close = 15
kind_number Limit = 16
kind_number Held = 17
kind_number Net = 18
kind_number Set = 19
kind_number BrokenSet = 20

abbrev pub same_kind : LineKind → LineKind → Bool
same_kind a b = eqb (kind_number a) (kind_number b)

-- a word, how many fields follow it, and the kind of such a line
pub data Form : Type 0 where
  form : String → (fields : ℕ) → LineKind → Form

-- the forms of lines; a verify line ends in the ten-year mark (02, 1/14), a set line has six pairs (02, 3/14)
unfoldable pub forms : List Form
forms =
    form "book" 4 Book
    ∷ form "holder" 1 Holder
    ∷ form "sink" 2 Sink
    ∷ form "path" 2 Path
    ∷ form "load" 6 Load
    ∷ form "block" 3 Block
    ∷ form "carry" 3 Carry
    ∷ form "prior" 4 Prior
    ∷ form "verify" 8 Verify
    ∷ form "migrate" 3 Migrate
    ∷ form "class" 5 Class
    ∷ form "open" 1 Open
    ∷ form "nominate" 3 Nominate
    ∷ form "award" 3 Award
    ∷ form "close" 0 Close
    ∷ form "limit" 2 Limit
    ∷ form "held" 3 Held
    ∷ form "net" 2 Net
    ∷ form "set" 12 Set
    ∷ []

-- the same bytes
unfoldable pub same_bytes : List ℕ → List ℕ → Bool
same_bytes [] [] = true
same_bytes [] (y ∷ ys) = false
same_bytes (x ∷ xs) [] = false
same_bytes (x ∷ xs) (y ∷ ys) = eqb x y && same_bytes xs ys

-- the kind of a line of this word, with so many fields, among some forms
unfoldable pub kind_among : List ℕ → ℕ → List Form → LineKind
kind_among word count [] = Unreadable
kind_among word count (form known fields kind ∷ later) = cond (same_bytes word (bytes_of known) && eqb fields count) kind (kind_among word count later)

-- a line of another word or count of fields is unreadable
unfoldable pub kind_of : List ℕ → ℕ → LineKind
kind_of word count = kind_among word count forms

unfoldable pub all_numbers : List (List ℕ) → Bool
all_numbers [] = true
all_numbers (field ∷ fields) = is_number field && all_numbers fields

-- no line has more fields
abbrev pub max_fields : ℕ
max_fields = 12

-- a line's kind and its numbers, 0 past the last
unfoldable pub row : LineKind → List ℕ → Row
row kind numbers = record { kind = kind; fields = tabulate max_fields (λ k. get_or numbers k 0) }

unfoldable pub unreadable_row : Row
unreadable_row = row Unreadable []

-- a line's text begins with the four bytes `set,` (02, 3/14)
unfoldable pub begins_set : List ℕ → Bool
begins_set text = same_bytes (take 4 text) (bytes_of "set,")

-- the row of a line of this text, where it cannot be read (02, 3/14)
unfoldable pub unread_row : List ℕ → Row
unread_row text = cond (begins_set text) (row BrokenSet []) unreadable_row

-- a row of a kind, the one given first where that kind is unreadable
unfoldable pub row_if : Row → LineKind → List ℕ → Row
row_if unread kind numbers = cond (same_kind kind Unreadable) unread (row kind numbers)

-- the word and the fields after it; where they cannot be read, the row given first
unfoldable pub row_of_fields : Row → List (List ℕ) → Row
row_of_fields unread [] = unread
row_of_fields unread (word ∷ fields) = cond (all_numbers fields) (row_if unread (kind_of word (length fields)) (map value_of fields)) unread

-- bytes after the last LF are a line that cannot be read
unfoldable pub row_of : Line → Row
row_of (ended text) = row_of_fields (unread_row text) (fields_of text)
row_of (unended text) = unread_row text

unfoldable pub rows_of : List ℕ → List Row
rows_of script = map row_of (lines_of script)

-- a number of a row, counted from 0
unfoldable pub field : ℕ → Row → ℕ
field k r = get_or r.fields k 0

-- every row is of this kind
unfoldable pub all_of_kind : LineKind → List Row → Bool
all_of_kind kind [] = true
all_of_kind kind (r ∷ rows) = same_kind r.kind kind && all_of_kind kind rows

-- as many lines as were counted, all of one kind
unfoldable pub counted : LineKind → ℕ → List Row → Bool
counted kind n lines = eqb (length lines) n && all_of_kind kind lines

-- the rows after a book head: as many holder, sink and path lines as it counts, in that order
module _ (head : Row) (rows : List Row) where
  unfoldable pub holder_rows : List Row
  holder_rows = take (field 0 head) rows

  unfoldable pub sink_rows : List Row
  sink_rows = take (field 2 head) (drop (field 0 head) rows)

  unfoldable pub path_rows : List Row
  path_rows = take (field 3 head) (drop (field 0 head + field 2 head) rows)

-- how many lines a book head counts
unfoldable pub head_count : Row → ℕ
head_count head = field 0 head + field 2 head + field 3 head

-- how many lines of the book group the row directly after those is: one if its line begins with `set,`, read or not (02, 3/14)
unfoldable pub set_count : Row → ℕ
set_count r = cond (same_kind r.kind Set || same_kind r.kind BrokenSet) 1 0

-- it is no such line, or one that can be read (02, 3/14)
unfoldable pub not_broken : Row → Bool
not_broken r = not (same_kind r.kind BrokenSet)

-- its fractions; those that hold without a set line, where it is none that can be read (02, 3/14)
unfoldable pub settings_on : Row → Settings
settings_on r = cond (same_kind r.kind Set) (settings_of r.fields) present_settings

-- the same of the rows after a book head (02, 3/14)
module _ (head : Row) (rows : List Row) where
  -- the row directly after the lines that are counted, that of an unreadable line where there is none
  unfoldable pub set_row : Row
  set_row = get_or rows (head_count head) unreadable_row

  unfoldable pub set_readable : Bool
  set_readable = not_broken set_row

  unfoldable pub settings_of_rows : Settings
  settings_of_rows = settings_on set_row

  -- how many lines the book group has after its head
  unfoldable pub book_line_count : ℕ
  book_line_count = head_count head + set_count set_row
