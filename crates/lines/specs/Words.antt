-- Words as numbers, by which they are looked for: every word of a line has at most eight letters from a to z.
use Rattle.std.specs.Prelude.{ℕ, ◌+◌, ◌-◌, ◌*◌, Bool, true, cond, ◌&&◌, List, [], ◌∷◌, length, eqb, leb}
use Rattle.tariff.specs.Ranges.{within}
use Rattle.lines.specs.Text.{bytes_of}
use Rattle.lines.specs.declared.text.Token.{Token}
use Rattle.lines.specs.declared.rows.LineKind.{LineKind}
use Rattle.lines.specs.declared.rows.LineKind.TheVariants.{Unreadable}
use Rattle.lines.specs.Rows.{Form, form}
use Rattle.lines.specs.Reading.{leading}

-- the most letters of a word
abbrev pub max_letters : ℕ
max_letters = 8

-- the letters a to z are the bytes 97 to 122
unfoldable pub is_letter : ℕ → Bool
is_letter b = within 97 122 b

unfoldable pub all_letters : List ℕ → Bool
all_letters [] = true
all_letters (b ∷ bytes) = is_letter b && all_letters bytes

-- letters as a number, that of those before them being given: five bits to a letter; a is 1, z is 26
unfoldable pub key_after : ℕ → List ℕ → ℕ
key_after key [] = key
key_after key (b ∷ bytes) = key_after (key * 32 + (b - 96)) bytes

unfoldable pub letter_key : List ℕ → ℕ
letter_key word = key_after 0 word

-- five bits to each of eight letters: every word's number is less
abbrev pub key_limit : ℕ
key_limit = 1099511627776

-- the letters that bytes start with, so many as a word can have
unfoldable pub leading_letters : List ℕ → List ℕ
leading_letters bytes = leading is_letter max_letters bytes

-- their number, and how many they are
unfoldable pub word_at : List ℕ → Token
word_at bytes = record { value = letter_key (leading_letters bytes); end = length (leading_letters bytes) }

-- bytes that can be a line's word
unfoldable pub is_word : List ℕ → Bool
is_word word = leb (length word) max_letters && all_letters word

-- the number of a word, 0 for bytes that are none
unfoldable pub word_key : List ℕ → ℕ
word_key word = cond (is_word word) (letter_key word) 0

-- every count of fields is less
abbrev pub count_limit : ℕ
count_limit = 16

-- a form as one number: its word's and its count of fields
unfoldable pub form_number : Form → ℕ
form_number (form known fields kind) = letter_key (bytes_of known) * count_limit + fields

unfoldable pub kind_in : Form → LineKind
kind_in (form known fields kind) = kind

-- the kind of the form that has this number
unfoldable pub kind_numbered : ℕ → List Form → LineKind
kind_numbered n [] = Unreadable
kind_numbered n (f ∷ later) = cond (eqb n (form_number f)) (kind_in f) (kind_numbered n later)
