-- How a script is read, line by line, out of its bytes: where a line or a field ends, and what the next line says (01, Script and host).
use Rattle.std.specs.Prelude.{ℕ, zero, suc, ◌+◌, Bool, true, cond, ◌&&◌, ◌||◌, Option, Some, None, List, [], ◌∷◌, map, length, get_or, take, eqb, leb}
use Rattle.tariff.specs.Sum.{tabulate, any_of}
use Rattle.lines.specs.declared.text.Token.{Token}
use Rattle.lines.specs.declared.rows.Row.{Row}
use Rattle.lines.specs.declared.rows.Fields.{Fields}
use Rattle.lines.specs.declared.lines.NextRow.{NextRow}
use Rattle.lines.specs.Text.{line_feed, comma, Line, ended, unended, lines_of, fields_of, is_digit, max_digits, is_number, value_of}
use Rattle.lines.specs.Rows.{max_fields, all_numbers, unreadable_row, unread_row, row_of}

-- how many bytes stand before the first that is the stop, all of them if none is
unfoldable pub bytes_before : ℕ → List ℕ → ℕ
bytes_before stop [] = 0
bytes_before stop (b ∷ bytes) = cond (eqb b stop) 0 (suc (bytes_before stop bytes))

-- how many bytes are LF
unfoldable pub line_feeds_in : List ℕ → ℕ
line_feeds_in [] = 0
line_feeds_in (b ∷ bytes) = cond (eqb b line_feed) (suc (line_feeds_in bytes)) (line_feeds_in bytes)

-- the most bytes whose LFs are counted together
abbrev pub chunk_bytes : ℕ
chunk_bytes = 128

-- what a field writes: a number, or none
unfoldable pub numeral : List ℕ → Option ℕ
numeral field = cond (is_number field) (Some (value_of field)) None

-- the bytes at the start that pass a test, at most so many
unfoldable pub leading : (ℕ → Bool) → ℕ → List ℕ → List ℕ
leading test most [] = []
leading test zero (b ∷ bytes) = []
leading test (suc most) (b ∷ bytes) = cond (test b) (b ∷ leading test most bytes) []

-- the digits that bytes start with, so many as a number can have
unfoldable pub leading_digits : List ℕ → List ℕ
leading_digits bytes = leading is_digit max_digits bytes

-- their value, and how many they are
unfoldable pub digits_at : List ℕ → Token
digits_at bytes = record { value = value_of (leading_digits bytes); end = length (leading_digits bytes) }

-- the number that they are, if they are one
unfoldable pub field_at : List ℕ → Option Token
field_at bytes = cond (is_number (leading_digits bytes)) (Some (digits_at bytes)) None

-- the fields of what stands after a line's word: nothing, or a comma and fields
unfoldable pub fields_after : List ℕ → List (List ℕ)
fields_after [] = []
fields_after (b ∷ bytes) = fields_of bytes

-- the bytes of the first line, its LF not among them
unfoldable pub line_text : List ℕ → List ℕ
line_text bytes = take (bytes_before line_feed bytes) bytes

-- a field has ended where nothing is left, or at a comma or an LF
unfoldable pub field_ends : List ℕ → Bool
field_ends [] = true
field_ends (b ∷ bytes) = eqb b comma || eqb b line_feed

unfoldable pub has_line_feed : List ℕ → Bool
has_line_feed bytes = any_of bytes (λ b. eqb b line_feed)

-- fields, if each of them is a number and a row has room for them: how many, their values, 0 past the last, and where their line ends
unfoldable pub fields_if : Bool → List (List ℕ) → ℕ → Option Fields
fields_if readable fields end =
    cond (readable && all_numbers fields && leb (length fields) max_fields)
    (Some (record { count = length fields; numbers = tabulate max_fields (λ k. get_or (map value_of fields) k 0); end = end }))
    None

-- the fields of what stands after a line's word, if an LF ends the line
unfoldable pub fields_read : List ℕ → Option Fields
fields_read bytes = fields_if (field_ends bytes && has_line_feed bytes) (fields_after (line_text bytes)) (bytes_before line_feed bytes)

-- the row of the first line; where there is none, that of a line that cannot be read
unfoldable pub first_row : List Line → Row
first_row [] = unreadable_row
first_row (line ∷ lines) = row_of line

-- the bytes that the first line takes, its LF included
unfoldable pub first_bytes : List Line → ℕ
first_bytes [] = 0
first_bytes (ended text ∷ lines) = length text + 1
first_bytes (unended text ∷ lines) = length text

unfoldable pub next_row : List ℕ → NextRow
next_row rest = record { row = first_row (lines_of rest); consumed = first_bytes (lines_of rest) }

-- the first line passed over
unfoldable pub unreadable_line : List ℕ → NextRow
unreadable_line rest = record { row = unread_row rest; consumed = first_bytes (lines_of rest) }
