-- Laws of a line's row: what its word and the fields read after it make of it. Assumes nothing.
use Prim.Native.Nat.{ℕ, ◌+◌, ◌≤◌, ◌<◌}
use mathlib.Core.Path.{◌≡◌, refl, sym, ap, ap₂, ◌∙◌}
use mathlib.Core.Bool.{Bool, true, false, cond, ◌&&◌}
use mathlib.Core.List.{List, ◌∷◌, map}
use mathlib.Core.Logic.{◌⊎◌, inl, inr}
use native.Mathlib.Omega.{arith}
use borrow.Author.Tests.{leb-true, leb-false, le-leb}
use lib.ListN.{length, get_or, drop}
use lib.Dec.{leb}
use Rattle.tariff.specs.Sum.{tabulate}
use Rattle.tariff.proofs.Lists.{length_tabulate, list_is}
use Rattle.tariff.proofs.Tests.{decided, and_both, and_join}
use Rattle.std.specs.Prelude.{Option, Some, None}
use Rattle.lines.specs.declared.text.Token.{Token}
use Rattle.lines.specs.declared.rows.LineKind.{LineKind}
use Rattle.lines.specs.declared.rows.LineKind.TheVariants.{Unreadable}
use Rattle.lines.specs.declared.rows.Row.{Row}
use Rattle.lines.specs.declared.rows.Fields.{Fields}
use Rattle.lines.specs.Text.{line_feed, lines_of, fields_of, value_of}
use Rattle.lines.specs.Rows.{max_fields, kind_of, all_numbers, row, unread_row, row_if, row_of_fields}
use Rattle.lines.specs.Reading.{bytes_before, leading, fields_after, line_text, field_ends, has_line_feed, fields_if, fields_read, first_row, first_bytes, next_row, unreadable_line}
use Rattle.lines.specs.Words.{max_letters, is_letter, all_letters, letter_key, key_limit, leading_letters, word_at, is_word, word_key}
use Rattle.lines.proofs.LineFields.{field_length, first_field, first_length, line_fields, feed_after, up_to_after, feed_found}
use Rattle.lines.proofs.LeadingLaws.{leading_few, leading_within, leading_all, leading_field, field_continues}
use Rattle.lines.proofs.KindLaws.{is_same_kind, other_kind}
use Rattle.lines.proofs.WordLaws.{letter_inside, letters_none, letters_more, key_small, no_form_lem, no_word}
use Rattle.lines.proofs.BeginLaws.{line_begins}
use Rattle.lines.proofs.NextRowLaws.{ended_bytes, ended_row, unended_row}

-- the values of fields, 0 past the last
values : List (List ℕ) → List ℕ
values fields = tabulate max_fields (λ k. get_or (map value_of fields) k 0)

-- a row of no kind
no_kind : (unread : Row) (kind : LineKind) (numbers : List ℕ) → Unreadable ≡ kind → row_if unread kind numbers ≡ unread
unfolding row_if
no_kind unread kind numbers e = ap (λ t. cond t unread (row kind numbers)) (is_same_kind kind Unreadable (sym e))

no_row : (unread : Row) (word : List ℕ) (fields : List (List ℕ)) → Unreadable ≡ kind_of word (length fields) → row_of_fields unread (word ∷ fields) ≡ unread
unfolding row_of_fields
no_row unread word fields e = go (all_numbers fields)
  where
    go : (t : Bool) → cond t (row_if unread (kind_of word (length fields)) (map value_of fields)) unread ≡ unread
    go true = no_kind unread (kind_of word (length fields)) (map value_of fields) e
    go false = refl

-- what the reading of fields gives
record Readable (readable : Bool) (fields : List (List ℕ)) (end : ℕ) (f : Fields) : Type 0 where
  before-feed : readable ≡ true
  all-numbers : all_numbers fields ≡ true
  few : length fields ≤ max_fields
  counted : f.count ≡ length fields
  valued : f.numbers ≡ values fields
  ended : f.end ≡ end

module _ (readable : Bool) (fields : List (List ℕ)) (end : ℕ) where
  found : Bool → Option Fields
  found t = cond t (Some (record { count = length fields; numbers = values fields; end = end })) None

  are-readable : (f : Fields) → Some f ≡ fields_if readable fields end → Readable readable fields end f
  unfolding fields_if values found
  are-readable f read = go (readable && all_numbers fields && leb (length fields) max_fields) refl read
    where
      go : (t : Bool) → (readable && all_numbers fields && leb (length fields) max_fields) ≡ t → Some f ≡ found t → Readable readable fields end f
      go true e p =
          let q : f ≡ record { count = length fields; numbers = values fields; end = end } = cc in
          let both = and_both (readable && all_numbers fields) (leb (length fields) max_fields) e in
          let parts = and_both readable (all_numbers fields) both.0 in
          record { before-feed = parts.0; all-numbers = parts.1; few = leb-true (length fields) max_fields both.1; counted = ap (λ g. g.count) q; valued = ap (λ g. g.numbers) q; ended = ap (λ g. g.end) q }
      go false e p = let z : ⊥ = cc in absurd z

  -- the fields of a line with an LF are no row's
  are-unreadable : (unread : Row) (word : List ℕ) → readable ≡ true → None ≡ fields_if readable fields end → row_of_fields unread (word ∷ fields) ≡ unread
  unfolding fields_if row_of_fields values found
  are-unreadable unread word r read = go (all_numbers fields) (leb (length fields) max_fields) refl (read ∙ ap (λ t. found (t && all_numbers fields && leb (length fields) max_fields)) r)
    where
      go : (a b : Bool) → leb (length fields) max_fields ≡ b → None ≡ found (a && b) → cond a (row_if unread (kind_of word (length fields)) (map value_of fields)) unread ≡ unread
      go false b q e = refl
      go true false q e = no_kind unread (kind_of word (length fields)) (map value_of fields) (no_form_lem word (length fields) (leb-false (length fields) max_fields q))
      go true true q e = let z : ⊥ = cc in absurd z

-- a line whose word is read, and its fields after that
module _ (rest : List ℕ) (word : Token) (spelt : word ≡ word_at rest) where
  -- the line's row, where it cannot be read
  unread : Row
  unread = unread_row (line_text rest)

  letters : List ℕ
  letters = leading is_letter max_letters rest

  bytes : List ℕ
  bytes = drop (length letters) rest

  fields : List (List ℕ)
  fields = fields_after (line_text bytes)

  word-length : word.end ≡ length letters
  unfolding word_at leading_letters letters
  word-length = ap (λ t. t.end) spelt

  pub word_within : word.end ≤ length rest
  unfolding letters
  word_within = let same = word-length in let within = leading_within is_letter max_letters rest in omega arith

  read-there : (left : List ℕ) → left ≡ drop word.end rest → fields_read left ≡ fields_if (field_ends bytes && has_line_feed bytes) fields (bytes_before line_feed bytes)
  unfolding fields_read bytes fields
  read-there left part = ap fields_read (part ∙ ap (λ n. drop n rest) word-length)

  pub key_fits : word.value < key_limit
  key_fits = let small = key_small rest in let same = ap (λ t. t.value) spelt in omega arith

  key_of : word.value ≡ word_key letters
  unfolding word_at leading_letters word_key is_word letters
  key_of =
      ap (λ t. t.value) spelt
      ∙ sym (ap (λ t. cond t (letter_key letters) 0) (and_join (le-leb (length letters) max_letters (leading_few is_letter max_letters rest)) (leading_all is_letter all_letters letters_none letters_more max_letters rest)))

  -- the word ends with a field
  module _ (ends : field_ends bytes ≡ true) where
    same : letters ≡ first_field rest
    unfolding letters bytes
    same = leading_field is_letter letter_inside all_letters letters_more max_letters rest ends

    width : field_length rest ≡ length letters
    width = sym (ap length same ∙ first_length rest)

    parted : fields_of (line_text rest) ≡ letters ∷ fields
    unfolding fields bytes
    parted = line_fields rest ∙ ap₂ (λ field n. field ∷ fields_after (line_text (drop n rest))) (sym same) width

    fed : has_line_feed rest ≡ has_line_feed bytes
    unfolding bytes
    fed = feed_after rest ∙ ap (λ n. has_line_feed (drop n rest)) width

    feed-at : bytes_before line_feed rest ≡ length letters + bytes_before line_feed bytes
    unfolding bytes
    feed-at = up_to_after rest ∙ ap (λ n. n + bytes_before line_feed (drop n rest)) width

  -- or goes on, and is none
  continues : field_ends bytes ≡ false → row_of_fields unread (fields_of (line_text rest)) ≡ unread
  unfolding is_word letters bytes
  continues e = ap (row_of_fields unread) (line_fields rest) ∙ no_row unread (first_field rest) _ (no_word (first_field rest) _ (field_continues is_letter letter_inside all_letters letters_more max_letters rest e))

  pub fields_unread : (left : List ℕ) → left ≡ drop word.end rest → None ≡ fields_read left → unreadable_line rest ≡ next_row rest
  unfolding unreadable_line next_row unread
  fields_unread left part r = ap (λ q. record { row = q; consumed = first_bytes (lines_of rest) }) (sym (go (decided (has_line_feed rest)) (decided (field_ends bytes))))
    where
      go : (has_line_feed rest ≡ true) ⊎ (has_line_feed rest ≡ false) → (field_ends bytes ≡ true) ⊎ (field_ends bytes ≡ false) → first_row (lines_of rest) ≡ unread_row rest
      go (inr none) e = unended_row rest none
      go (inl fd) (inr e) = ended_row rest fd ∙ continues e ∙ line_begins rest
      go (inl fd) (inl e) = ended_row rest fd ∙ ap (row_of_fields unread) (parted e) ∙ are-unreadable _ fields _ unread letters (and_join e (sym (fed e) ∙ fd)) (r ∙ read-there left part) ∙ line_begins rest

  module _ (left : List ℕ) (part : left ≡ drop word.end rest) (f : Fields) (read : Some f ≡ fields_read left) where
    facts : Readable (field_ends bytes && has_line_feed bytes) fields (bytes_before line_feed bytes) f
    facts = are-readable _ fields _ f (read ∙ read-there left part)

    ends : field_ends bytes ≡ true
    ends = (and_both (field_ends bytes) (has_line_feed bytes) facts.before-feed).0

    has : has_line_feed rest ≡ true
    has = fed ends ∙ (and_both (field_ends bytes) (has_line_feed bytes) facts.before-feed).1

    at-feed : word.end + f.end ≡ bytes_before line_feed rest
    at-feed = let same = word-length in let ended = facts.ended in let whole = feed-at ends in omega arith

    pub count_fits : f.count ≤ max_fields
    count_fits = let few = facts.few in let same = facts.counted in omega arith

    pub end_within : word.end + f.end < length rest
    end_within = let within = feed_found rest has in let same = at-feed in omega arith

    module _ (kind : LineKind) (known : (w : List ℕ) → word.value ≡ word_key w → kind ≡ kind_of w f.count) where
      first : first_row (lines_of rest) ≡ row_if unread kind (map value_of fields)
      unfolding row_of_fields unread
      first =
          ended_row rest has
          ∙ ap (row_of_fields unread) (parted ends)
          ∙ ap (λ t. cond t (row_if unread (kind_of letters (length fields)) (map value_of fields)) unread) facts.all-numbers
          ∙ ap (λ k. row_if unread k (map value_of fields)) (sym (known letters key_of ∙ ap (kind_of letters) facts.counted))

      pub word_unknown : kind ≡ Unreadable → unreadable_line rest ≡ next_row rest
      unfolding unreadable_line next_row unread
      word_unknown z = ap (λ q. record { row = q; consumed = first_bytes (lines_of rest) }) (sym (first ∙ no_kind unread kind (map value_of fields) (sym z) ∙ line_begins rest))

      -- the numbers, one by one
      each : f.numbers ≡ tabulate max_fields (λ k. get_or f.numbers k 0)
      unfolding values
      each = list_is max_fields (λ k. get_or f.numbers k 0) f.numbers (ap length facts.valued ∙ length_tabulate max_fields _) (λ k l. refl)

      pub row_read : (kind ≡ Unreadable → ⊥) → record { row = record { kind = kind; fields = tabulate max_fields (λ k. get_or f.numbers k 0) }; consumed = word.end + f.end + 1 } ≡ next_row rest
      unfolding next_row row_if row values
      row_read z =
          ap₂ (λ ns n. record { row = record { kind = kind; fields = ns }; consumed = n }) (sym each ∙ facts.valued) (ended_bytes rest (word.end + f.end) at-feed end_within)
          ∙ ap (λ q. record { row = q; consumed = first_bytes (lines_of rest) }) (sym (first ∙ ap (λ t. cond t unread (row kind (map value_of fields))) (other_kind kind Unreadable z)))
