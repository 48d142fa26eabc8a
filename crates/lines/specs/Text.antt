-- The bytes of a script: lines, fields and numbers, and the digits that an answer writes (01, Script and host).
use Rattle.std.specs.Prelude.{ℕ, zero, suc, ◌+◌, ◌-◌, ◌*◌, ◌/◌, ◌%◌, Bool, true, cond, not, ◌&&◌, ◌||◌, List, [], ◌∷◌, ◌++◌, length, get_or, eqb, ltb}
use Prim.Native.Char.{code}
use Prim.Native.String.{String, [] as none, ◌∷◌ as ◌then◌}
use Rattle.tariff.specs.Ranges.{within}

-- the most bytes and lines that a run takes
abbrev pub max_bytes : ℕ
max_bytes = 65536

abbrev pub max_lines : ℕ
max_lines = 4096

-- the bytes of output that a run needs for each line
abbrev pub bytes_per_line : ℕ
bytes_per_line = 16

-- the bytes of a word
unfoldable pub bytes_of : String → List ℕ
bytes_of none = []
bytes_of (c then s) = code c ∷ bytes_of s

-- LF ends a line, a comma parts two fields
abbrev pub line_feed : ℕ
line_feed = 10

abbrev pub comma : ℕ
comma = 44

-- a line: the bytes before its LF; or those after the last LF, which are one more line, without an end
pub data Line : Type 0 where
  ended : List ℕ → Line
  unended : List ℕ → Line

-- a byte in front of the first line
unfoldable pub to_first_line : ℕ → List Line → List Line
to_first_line b [] = unended (b ∷ []) ∷ []
to_first_line b (ended text ∷ lines) = ended (b ∷ text) ∷ lines
to_first_line b (unended text ∷ lines) = unended (b ∷ text) ∷ lines

unfoldable pub lines_of : List ℕ → List Line
lines_of [] = []
lines_of (b ∷ bytes) = cond (eqb b line_feed) (ended [] ∷ lines_of bytes) (to_first_line b (lines_of bytes))

-- a byte in front of the first field
unfoldable pub to_first_field : ℕ → List (List ℕ) → List (List ℕ)
to_first_field b [] = (b ∷ []) ∷ []
to_first_field b (field ∷ fields) = (b ∷ field) ∷ fields

-- the fields of a line, parted by commas: one more than there are commas
unfoldable pub fields_of : List ℕ → List (List ℕ)
fields_of [] = [] ∷ []
fields_of (b ∷ bytes) = cond (eqb b comma) ([] ∷ fields_of bytes) (to_first_field b (fields_of bytes))

-- digits are the bytes 48 to 57
unfoldable pub is_digit : ℕ → Bool
is_digit b = within 48 57 b

unfoldable pub all_digits : List ℕ → Bool
all_digits [] = true
all_digits (b ∷ bytes) = is_digit b && all_digits bytes

-- a number has 1 to 9 digits, and no leading zero but 0 itself
abbrev pub max_digits : ℕ
max_digits = 9

unfoldable pub is_number : List ℕ → Bool
is_number field = within 1 max_digits (length field) && all_digits field && (eqb (length field) 1 || not (eqb (get_or field 0 0) 48))

-- the value of digits, that of those before them being given
unfoldable pub value_after : ℕ → List ℕ → ℕ
value_after v [] = v
value_after v (b ∷ bytes) = value_after (v * 10 + (b - 48)) bytes

unfoldable pub value_of : List ℕ → ℕ
value_of field = value_after 0 field

-- the byte of a digit
unfoldable pub digit : ℕ → ℕ
digit d = 48 + d

-- the decimal digits of a number that has at most so many
unfoldable pub digits_of : ℕ → ℕ → List ℕ
digits_of zero v = []
digits_of (suc most) v = cond (ltb v 10) (digit v ∷ []) (digits_of most (v / 10) ++ (digit (v % 10) ∷ []))

-- a number of 64 bits has at most 20
unfoldable pub decimal : ℕ → List ℕ
decimal v = digits_of 20 v
