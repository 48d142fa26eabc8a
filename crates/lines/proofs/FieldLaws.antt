-- Laws of reading the fields of a line one after another: what is read so far, and what the next field makes of it. Assumes nothing.
use Prim.Native.Nat.{ℕ, suc, ◌+◌, ◌-◌, ◌≤◌, ◌<◌}
use mathlib.Core.Path.{◌≡◌, refl, sym, ap, ap₂, ◌∙◌}
use mathlib.Core.Bool.{Bool, true, false, cond, ◌&&◌, ◌||◌}
use mathlib.Core.List.{List, [], ◌∷◌, ◌++◌, map}
use mathlib.Core.Logic.{◌⊎◌, inl, inr, ⊎_elim}
use native.Mathlib.Numerals.{add-one}
use native.Mathlib.Omega.{arith}
use borrow.Author.Tests.{le-leb, lt-leb, leb-true, ltb-true, ltb-false, eqb-true, eqb-false, ne_eqb}
use lib.ListN.{length, get_or, take, drop, set, length-map, length-drop, get_or-eq_default, get_or-append}
use lib.Seq.{take_all, sets, sets-eq, length-sets, get_or-append-add, get_or-drop}
use lib.Dec.{eqb, leb, ltb}
use Rattle.tariff.specs.Sum.{tabulate, any_of}
use Rattle.tariff.proofs.Lists.{length_tabulate, at_tabulate, list_is}
use Rattle.tariff.proofs.Tests.{decided, both_ways, and_both, and_left_false, and_right_false}
use Rattle.std.specs.Prelude.{Option, Some, None}
use Rattle.lines.specs.declared.text.Token.{Token}
use Rattle.lines.specs.declared.rows.Fields.{Fields}
use Rattle.lines.specs.Text.{line_feed, comma, is_digit, all_digits, max_digits, is_number, value_of}
use Rattle.lines.specs.Rows.{max_fields, all_numbers}
use Rattle.lines.specs.Reading.{bytes_before, leading, leading_digits, digits_at, field_at, fields_after, line_text, field_ends, has_line_feed, fields_if, fields_read}
use Rattle.lines.proofs.TextLaws.{at_byte}
use Rattle.lines.proofs.LineFields.{field_length, first_field, first_length, line_fields, feed_after, up_to_after}
use Rattle.lines.proofs.LeadingLaws.{leading_field, field_leading, field_continues}
use Rattle.lines.proofs.NumberLaws.{digit_inside, digits_more, number_fits, field_valid, field_invalid, digits_within}

-- a part of a line up to its end
pub rest_all : (text : List ℕ) (from : ℕ) → take (length text - from) (drop from text) ≡ drop from text
rest_all text from = take_all (length text - from) (drop from text) (let left = length-drop from text in omega arith)

-- no number read yet
unfoldable pub zeros : List ℕ
zeros = tabulate max_fields (λ k. 0)

-- fields and their numbers, none where a test fails
unfoldable pub fields_where : Bool → ℕ → List ℕ → ℕ → Option Fields
fields_where test count numbers end = cond test (Some (record { count = count; numbers = numbers; end = end })) None

-- what is read of fields after so many others, whose numbers are stored
unfoldable pub rest_if : Bool → ℕ → List ℕ → List (List ℕ) → ℕ → Option Fields
rest_if readable count numbers fields end = fields_where (readable && all_numbers fields && leb (count + length fields) max_fields) (count + length fields) (sets numbers count (map value_of fields)) end

-- the same, from a place on
unfoldable pub read_from : ℕ → List ℕ → ℕ → List ℕ → Option Fields
read_from count numbers at bytes = rest_if (field_ends bytes && has_line_feed bytes) count numbers (fields_after (line_text bytes)) (at + bytes_before line_feed bytes)

long : length zeros ≡ max_fields
unfolding zeros
long = length_tabulate max_fields (λ k. 0)

zeros_at : (k : ℕ) → get_or zeros k 0 ≡ 0
unfolding zeros
zeros_at k = ⊎_elim (λ b. at_tabulate {A = ℕ} max_fields (λ k. 0) 0 k (ltb-true k max_fields b)) (λ b. let past = ltb-false k max_fields b in get_or-eq_default {A = ℕ} zeros 0 {n = k} (omega (arith, long))) (decided (ltb k max_fields))

-- numbers stored from the first place on are the numbers, and 0 past the last
stored : (values : List ℕ) → length values ≤ max_fields → sets zeros 0 values ≡ tabulate max_fields (λ k. get_or values k 0)
stored values l = list_is max_fields (λ k. get_or values k 0) (sets zeros 0 values) (length-sets zeros 0 values ∙ long) (λ k b. ap (λ xs. get_or xs k 0) (sets-eq values zeros 0 (omega (arith, long))) ∙ at k)
  where
    at : (k : ℕ) → get_or (values ++ drop (0 + length values) zeros) k 0 ≡ get_or values k 0
    at k = ⊎_elim (λ b. get_or-append values (drop (0 + length values) zeros) 0 k (ltb-true k (length values) b)) (λ b. past (ltb-false k (length values) b)) (decided (ltb k (length values)))
      where
        past : length values ≤ k → get_or (values ++ drop (0 + length values) zeros) k 0 ≡ get_or values k 0
        past b =
            let there : k ≡ length values + (k - length values) = omega arith in
            ap (λ i. get_or (values ++ drop (0 + length values) zeros) i 0) there
            ∙ get_or-append-add values (drop (0 + length values) zeros) (k - length values) 0
            ∙ get_or-drop (0 + length values) zeros (k - length values) 0
            ∙ zeros_at (0 + length values + (k - length values))
            ∙ sym (get_or-eq_default values 0 {n = k} b)

started : (readable : Bool) (fields : List (List ℕ)) (end : ℕ) → fields_if readable fields end ≡ rest_if readable 0 zeros fields end
unfolding fields_if rest_if fields_where
started readable fields end =
    let none : length fields ≡ 0 + length fields = omega arith in
    go (readable && all_numbers fields && leb (length fields) max_fields) refl
    ∙ ap (λ n. fields_where (readable && all_numbers fields && leb n max_fields) n (sets zeros 0 (map value_of fields)) end) none
  where
    go : (t : Bool) → (readable && all_numbers fields && leb (length fields) max_fields) ≡ t → fields_where t (length fields) (tabulate max_fields (λ k. get_or (map value_of fields) k 0)) end ≡ fields_where t (length fields) (sets zeros 0 (map value_of fields)) end
    go true e =
        let few = leb-true (length fields) max_fields (and_both (readable && all_numbers fields) (leb (length fields) max_fields) e).1 in
        let same = length-map fields value_of in
        ap (λ ns. fields_where true (length fields) ns end) (sym (stored (map value_of fields) (omega arith)))
    go false e = refl

pub reading_starts : (bytes : List ℕ) → fields_read bytes ≡ read_from 0 zeros 0 bytes
unfolding fields_read read_from
reading_starts bytes = let here : bytes_before line_feed bytes ≡ 0 + bytes_before line_feed bytes = omega arith in started (field_ends bytes && has_line_feed bytes) (fields_after (line_text bytes)) (bytes_before line_feed bytes) ∙ ap (rest_if (field_ends bytes && has_line_feed bytes) 0 zeros (fields_after (line_text bytes))) here

refused : (t : Bool) (count : ℕ) (numbers : List ℕ) (end : ℕ) → t ≡ false → fields_where t count numbers end ≡ None
unfolding fields_where
refused true count numbers end e = absurd (both_ways refl e)
refused false count numbers end e = refl

rest_refused : (readable : Bool) (count : ℕ) (numbers : List ℕ) (fields : List (List ℕ)) (end : ℕ) → readable ≡ false → rest_if readable count numbers fields end ≡ None
unfolding rest_if
rest_refused readable count numbers fields end e = refused _ _ _ end (and_left_false _ (and_left_false (all_numbers fields) e))

module _ (readable : Bool) (count : ℕ) (numbers : List ℕ) (field : List ℕ) (fields : List (List ℕ)) (end : ℕ) where
  field-refused : is_number field ≡ false → rest_if readable count numbers (field ∷ fields) end ≡ None
  unfolding rest_if all_numbers
  field-refused e = refused _ _ _ end (and_left_false _ (and_right_false readable (and_left_false (all_numbers fields) e)))

  one-too-many : count ≡ max_fields → rest_if readable count numbers (field ∷ fields) end ≡ None
  unfolding rest_if all_numbers
  one-too-many e = refused _ _ _ end (and_right_false (readable && (is_number field && all_numbers fields)) (lt-leb (count + suc (length fields)) max_fields (omega arith)))

  field-more : is_number field ≡ true → rest_if readable count numbers (field ∷ fields) end ≡ rest_if readable (count + 1) (set numbers count (value_of field)) fields end
  unfolding rest_if all_numbers
  field-more e =
      let one : count + suc (length fields) ≡ count + 1 + length fields = omega arith in
      ap (λ t. fields_where (readable && (t && all_numbers fields) && leb (count + suc (length fields)) max_fields) (count + suc (length fields)) (sets (set numbers count (value_of field)) (suc count) (map value_of fields)) end) e
      ∙ ap₂ (λ n k. fields_where (readable && all_numbers fields && leb n max_fields) n (sets (set numbers count (value_of field)) k (map value_of fields)) end) one (sym (add-one count))

reading_ends : (count : ℕ) (numbers : List ℕ) (at : ℕ) → count ≤ max_fields → rest_if true count numbers [] (at + 0) ≡ Some (record { count = count; numbers = numbers; end = at })
unfolding rest_if all_numbers fields_where
reading_ends count numbers at l =
    let none : count + 0 ≡ count = omega arith in
    let here : at + 0 ≡ at = omega arith in
    ap₂ (λ n k. fields_where (leb n max_fields) n numbers k) none here ∙ ap (λ t. fields_where t count numbers at) (le-leb count max_fields l)

-- a line at a comma: the field after it, and what stands after that
module _ (count : ℕ) (numbers : List ℕ) (at : ℕ) (bytes : List ℕ) where
  end : ℕ
  end = at + suc (bytes_before line_feed bytes)

  at-comma : read_from count numbers at (comma ∷ bytes) ≡ rest_if (has_line_feed bytes) count numbers (first_field bytes ∷ fields_after (line_text (drop (field_length bytes) bytes))) end
  unfolding read_from field_ends has_line_feed any_of line_text bytes_before fields_after end
  at-comma = ap (λ fields. rest_if (has_line_feed bytes) count numbers fields end) (line_fields bytes)

  comma-too-many : count ≡ max_fields → read_from count numbers at (comma ∷ bytes) ≡ None
  comma-too-many e = at-comma ∙ one-too-many _ count numbers _ _ _ e

  -- digits that are no number are no field
  comma-no-number : is_number (leading_digits bytes) ≡ false → read_from count numbers at (comma ∷ bytes) ≡ None
  unfolding leading_digits
  comma-no-number e = at-comma ∙ field-refused _ count numbers _ _ _ (go (decided (is_number (first_field bytes))))
    where
      go : (is_number (first_field bytes) ≡ true) ⊎ (is_number (first_field bytes) ≡ false) → is_number (first_field bytes) ≡ false
      go (inl is) = absurd (both_ways (ap is_number (field_leading is_digit digit_inside all_digits digits_more max_digits bytes (number_fits (first_field bytes) is)) ∙ is) e)
      go (inr none) = none

  -- a field that goes on after its digits is no number
  number-ends : field_ends (drop (length (leading is_digit max_digits bytes)) bytes) ≡ false → is_number (first_field bytes) ≡ false
  number-ends q = go (decided (is_number (first_field bytes)))
    where
      go : (is_number (first_field bytes) ≡ true) ⊎ (is_number (first_field bytes) ≡ false) → is_number (first_field bytes) ≡ false
      go (inl is) = absurd (both_ways (number_fits (first_field bytes) is) (field_continues is_digit digit_inside all_digits digits_more max_digits bytes q))
      go (inr none) = none

  comma-number : is_number (leading_digits bytes) ≡ true → read_from count numbers at (comma ∷ bytes) ≡ read_from (count + 1) (set numbers count (value_of (leading_digits bytes))) (at + 1 + length (leading_digits bytes)) (drop (length (leading_digits bytes)) bytes)
  unfolding read_from leading_digits end
  comma-number e = go (field_ends (drop (length digits) bytes)) refl
    where
      digits : List ℕ
      digits = leading is_digit max_digits bytes

      go : (t : Bool) → field_ends (drop (length digits) bytes) ≡ t → read_from count numbers at (comma ∷ bytes) ≡ rest_if (field_ends (drop (length digits) bytes) && has_line_feed (drop (length digits) bytes)) (count + 1) (set numbers count (value_of digits)) (fields_after (line_text (drop (length digits) bytes))) (at + 1 + length digits + bytes_before line_feed (drop (length digits) bytes))
      go true q =
          let same : digits ≡ first_field bytes = leading_field is_digit digit_inside all_digits digits_more max_digits bytes q in
          let width : field_length bytes ≡ length digits = sym (ap length same ∙ first_length bytes) in
          let line = up_to_after bytes ∙ ap (λ n. n + bytes_before line_feed (drop n bytes)) width in
          let place : end ≡ at + 1 + length digits + bytes_before line_feed (drop (length digits) bytes) = omega arith in
          at-comma
          ∙ ap₂ (λ field n. rest_if (has_line_feed bytes) count numbers (field ∷ fields_after (line_text (drop n bytes))) end) (sym same) width
          ∙ field-more (has_line_feed bytes) count numbers digits _ _ e
          ∙ ap₂ (λ t n. rest_if t (count + 1) (set numbers count (value_of digits)) (fields_after (line_text (drop (length digits) bytes))) n) (feed_after bytes ∙ ap (λ n. has_line_feed (drop n bytes)) width ∙ sym (ap (λ t. t && has_line_feed (drop (length digits) bytes)) q)) place
      go false q = at-comma ∙ field-refused _ count numbers _ _ _ (number-ends q) ∙ sym (rest_refused _ _ _ _ _ (and_left_false _ q))

nothing : (left : List ℕ) → length left < 1 → left ≡ []
nothing [] l = refl
nothing (b ∷ left) l = absurd (let z : ⊥ = omega arith in z)

-- a turn of the reading: from one comma of a line to the next
module _ (rest left : List ℕ) (count : ℕ) (numbers : List ℕ) (within : length left ≤ length rest) (passed : fields_read rest ≡ read_from count numbers (length rest - length left) left) where
  at : ℕ
  at = length rest - length left

  here : (b : ℕ) → 1 ≤ length left → get_or left 0 0 ≡ b → fields_read rest ≡ read_from count numbers at (b ∷ drop 1 left)
  unfolding at
  here b l e = passed ∙ at_byte (read_from count numbers at) left 0 l ∙ ap (λ b. read_from count numbers at (b ∷ drop 1 left)) e

  pub line_ends : 1 ≤ length left → get_or left 0 0 ≡ line_feed → count ≤ max_fields → Some (record { count = count; numbers = numbers; end = length rest - length left }) ≡ fields_read rest
  unfolding read_from field_ends has_line_feed any_of line_text bytes_before fields_after at
  line_ends l e few = sym (here line_feed l e ∙ reading_ends count numbers at few)

  pub stops_at_end : length left < 1 → None ≡ fields_read rest
  unfolding read_from has_line_feed any_of at
  stops_at_end l = sym (passed ∙ ap (read_from count numbers at) (nothing left l) ∙ rest_refused _ count numbers _ _ (and_right_false (field_ends []) refl))

  stops-at-other : 1 ≤ length left → (get_or left 0 0 ≡ line_feed → ⊥) → (get_or left 0 0 ≡ comma → ⊥) → None ≡ fields_read rest
  unfolding read_from field_ends
  stops-at-other l p q =
      let b = get_or left 0 0 in
      let other : (eqb b comma || eqb b line_feed) ≡ false = rw (ne_eqb b comma q, ne_eqb b line_feed p) in
      sym (here b l refl ∙ rest_refused _ count numbers _ _ (and_left_false _ other))

  -- fields end at a byte that is no LF: another one than a comma, or a comma after as many as a row has room for
  pub stops_at_byte : 1 ≤ length left → (get_or left 0 0 ≡ line_feed → ⊥) → (get_or left 0 0 ≡ comma → max_fields ≤ count) → count ≤ max_fields → None ≡ fields_read rest
  stops_at_byte l open-still full few = go (eqb (get_or left 0 0) comma) refl
    where
      go : (b : Bool) → eqb (get_or left 0 0) comma ≡ b → None ≡ fields_read rest
      go true e = let past = full (eqb-true (get_or left 0 0) comma e) in sym (here comma l (eqb-true (get_or left 0 0) comma e) ∙ comma-too-many count numbers at _ (omega arith))
      go false e = stops-at-other l open-still (eqb-false (get_or left 0 0) comma e)

  -- at a comma, and what stands after it
  module _ (l : 1 ≤ length left) (e : get_or left 0 0 ≡ comma) (after : List ℕ) (part : after ≡ drop 1 left) where
    at-after : fields_read rest ≡ read_from count numbers at (comma ∷ after)
    at-after = here comma l e ∙ ap (λ bytes. read_from count numbers at (comma ∷ bytes)) (sym part)

    pub stops_at_none : None ≡ field_at after → None ≡ fields_read rest
    stops_at_none read = sym (at-after ∙ comma-no-number count numbers at after (field_invalid after read))

    -- a field is read, and what stands after its digits is left
    module _ (f : Token) (read : Some f ≡ field_at after) (next : List ℕ) (follows : next ≡ drop f.end after) where
      pub next_within : (f.end ≤ length after) × (length next ≤ length rest)
      next_within =
          let inside = digits_within after f (field_valid after f read).1 in
          let size = ap length follows ∙ length-drop f.end after in
          let part_size = ap length part ∙ length-drop 1 left in
          (inside, omega arith)

      pub continues : fields_read rest ≡ read_from (count + 1) (set numbers count f.value) (length rest - length next) next
      unfolding digits_at at
      continues =
          let number = field_valid after f read in
          let inside = digits_within after f number.1 in
          let size = ap length follows ∙ length-drop f.end after in
          let part_size = ap length part ∙ length-drop 1 left in
          let place : at + 1 + f.end ≡ length rest - length next = omega arith in
          at-after
          ∙ comma-number count numbers at after number.0
          ∙ ap (λ d. read_from (count + 1) (set numbers count d.value) (at + 1 + d.end) (drop d.end after)) (sym number.1)
          ∙ ap₂ (λ n bytes. read_from (count + 1) (set numbers count f.value) n bytes) place (sym follows)
