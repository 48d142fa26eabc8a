-- Set lines of a script, read by computation (02, 3/14). Assumes nothing.
use Prim.Native.Nat.{ℕ}
use Prim.Native.String.{String}
use mathlib.Core.Path.{◌≡◌, refl}
use mathlib.Core.List.{List, [], ◌∷◌, ◌++◌, map}
use Rattle.tariff.specs.Sum.{tabulate}
use Rattle.tariff.specs.Ranges.{within}
use Rattle.tariff.specs.Settings.{settings_numbers, settings_of, fraction_at, present_settings}
use Rattle.lines.specs.Text.{bytes_of, to_first_line, lines_of, to_first_field, fields_of, is_digit, all_digits, is_number, value_after, value_of}
use Rattle.lines.specs.declared.rows.LineKind.{LineKind}
use Rattle.lines.specs.declared.rows.LineKind.TheVariants.{Unreadable, Book, Set, BrokenSet}
use Rattle.lines.specs.Rows.{forms, same_bytes, kind_among, kind_of, all_numbers, row, unreadable_row, begins_set, unread_row, row_if, row_of_fields, row_of, rows_of, field, head_count, set_count, settings_on, set_row, settings_of_rows, book_line_count}

-- a line and its LF
line : String → List ℕ
line text = bytes_of text ++ (10 ∷ [])

kinds : List ℕ → List LineKind
kinds script = map (λ r. r.kind) (rows_of script)

-- twelve numbers are read; eleven, thirteen, a field that is no number and a line without an end are not; `set` alone and other words are no set line
line-kinds :
    kinds
    (line "set,3,4,2,3,1,200,1,50,1,5,1,2"
    ++ line "set,3,4,2,3,1,200,1,50,1,5,1"
    ++ line "set,3,4,2,3,1,200,1,50,1,5,1,2,1"
    ++ line "set,3,4,2,3,1,200,1,50,1,5,1,x"
    ++ line "set,"
    ++ line "set"
    ++ line "sets,3,4"
    ++ line " set,3,4"
    ++ bytes_of "set,3,4,2,3,1,200,1,50,1,5,1,2")
    ≡ Set ∷ BrokenSet ∷ BrokenSet ∷ BrokenSet ∷ BrokenSet ∷ Unreadable ∷ Unreadable ∷ Unreadable ∷ BrokenSet ∷ []
unfolding line kinds bytes_of to_first_line lines_of to_first_field fields_of is_digit all_digits is_number value_after value_of within forms same_bytes kind_among kind_of all_numbers row unreadable_row begins_set unread_row row_if row_of_fields row_of rows_of tabulate
line-kinds = refl

-- how many lines of the book group stand after a head that counts one holder, and the fractions
group_of : List ℕ → List ℕ
group_of script = book_line_count (row Book (1 ∷ [])) (rows_of script) ∷ settings_numbers (settings_of_rows (row Book (1 ∷ [])) (rows_of script))

-- a set line directly after the holder's is of the group; the present fractions hold where it cannot be read, where another line stands between, and where the script ends
line-places :
    map
    group_of
    ((line "holder,1" ++ line "set,1,2,3,4,5,6,7,8,9,10,11,12")
    ∷ (line "holder,1" ++ bytes_of "set,1,2")
    ∷ (line "holder,1" ++ line "open,1" ++ line "set,1,2,3,4,5,6,7,8,9,10,11,12")
    ∷ line "holder,1"
    ∷ [])
    ≡ (2 ∷ 1 ∷ 2 ∷ 3 ∷ 4 ∷ 5 ∷ 6 ∷ 7 ∷ 8 ∷ 9 ∷ 10 ∷ 11 ∷ 12 ∷ [])
    ∷ (2 ∷ 3 ∷ 4 ∷ 2 ∷ 3 ∷ 1 ∷ 200 ∷ 1 ∷ 50 ∷ 1 ∷ 5 ∷ 1 ∷ 2 ∷ [])
    ∷ (1 ∷ 3 ∷ 4 ∷ 2 ∷ 3 ∷ 1 ∷ 200 ∷ 1 ∷ 50 ∷ 1 ∷ 5 ∷ 1 ∷ 2 ∷ [])
    ∷ (1 ∷ 3 ∷ 4 ∷ 2 ∷ 3 ∷ 1 ∷ 200 ∷ 1 ∷ 50 ∷ 1 ∷ 5 ∷ 1 ∷ 2 ∷ [])
    ∷ []
unfolding group_of line bytes_of to_first_line lines_of to_first_field fields_of is_digit all_digits is_number value_after value_of within forms same_bytes kind_among kind_of all_numbers row unreadable_row begins_set unread_row row_if row_of_fields row_of rows_of tabulate field head_count set_count settings_on set_row settings_of_rows book_line_count settings_numbers settings_of fraction_at present_settings
line-places = refl
