-- Laws of the fields of a script's first line: the first comma or LF ends a field, and what is left is the rest of the line. Assumes nothing.
use Prim.Native.Nat.{ℕ, suc, ◌+◌, ◌≤◌, ◌<◌, zero-le, suc-le-suc}
use mathlib.Core.Path.{◌≡◌, refl, sym, ap, ◌∙◌}
use mathlib.Core.Bool.{Bool, true, false, cond, ◌||◌}
use mathlib.Core.List.{List, [], ◌∷◌}
use native.Mathlib.Omega.{arith}
use lib.ListN.{length, take, drop}
use lib.Seq.{length-take-le}
use lib.Dec.{eqb}
use Rattle.tariff.specs.Sum.{any_of}
use Rattle.tariff.proofs.Tests.{both_ways}
use Rattle.lines.specs.Text.{line_feed, comma, to_first_field, fields_of}
use Rattle.lines.specs.Reading.{bytes_before, fields_after, line_text, field_ends, has_line_feed}

-- how many bytes stand before the first comma or LF
unfoldable pub field_length : List ℕ → ℕ
field_length [] = 0
field_length (b ∷ bytes) = cond (eqb b comma || eqb b line_feed) 0 (suc (field_length bytes))

unfoldable pub first_field : List ℕ → List ℕ
first_field bytes = take (field_length bytes) bytes

field_within : (bytes : List ℕ) → field_length bytes ≤ length bytes
unfolding field_length
field_within [] = zero-le
field_within (b ∷ bytes) = go (eqb b comma || eqb b line_feed) (field_within bytes)
  where
    go : (t : Bool) → field_length bytes ≤ length bytes → cond t 0 (suc (field_length bytes)) ≤ suc (length bytes)
    go true ih = zero-le
    go false ih = suc-le-suc ih

pub first_length : (bytes : List ℕ) → length (first_field bytes) ≡ field_length bytes
unfolding first_field
first_length bytes = length-take-le (field_length bytes) bytes (field_within bytes)

pub field_ended : (bytes : List ℕ) → field_ends (drop (field_length bytes) bytes) ≡ true
unfolding field_length field_ends
field_ended [] = refl
field_ended (b ∷ bytes) = go (eqb b comma || eqb b line_feed) refl (field_ended bytes)
  where
    go : (t : Bool) → (eqb b comma || eqb b line_feed) ≡ t → field_ends (drop (field_length bytes) bytes) ≡ true → field_ends (drop (cond t 0 (suc (field_length bytes))) (b ∷ bytes)) ≡ true
    go true e ih = e
    go false e ih = ih

-- the fields of a line: the bytes before the first comma or LF, and those after
pub line_fields : (bytes : List ℕ) → fields_of (line_text bytes) ≡ first_field bytes ∷ fields_after (line_text (drop (field_length bytes) bytes))
unfolding first_field field_length line_text bytes_before fields_of fields_after to_first_field
line_fields [] = refl
line_fields (b ∷ bytes) = go (eqb b comma) (eqb b line_feed) refl refl (line_fields bytes)
  where
    n : ℕ
    n = field_length bytes

    -- the line's bytes, by whether the first of them is an LF
    text : Bool → List ℕ
    text t = take (cond t 0 (suc (bytes_before line_feed bytes))) (b ∷ bytes)

    go : (s t : Bool) → eqb b comma ≡ s → eqb b line_feed ≡ t → fields_of (line_text bytes) ≡ take n bytes ∷ fields_after (line_text (drop n bytes)) → fields_of (text t) ≡ take (cond (s || t) 0 (suc n)) (b ∷ bytes) ∷ fields_after (line_text (drop (cond (s || t) 0 (suc n)) (b ∷ bytes)))
    go true true p q ih = ap (λ t. [] ∷ fields_after (text t)) (sym q)
    go false true p q ih = ap (λ t. [] ∷ fields_after (text t)) (sym q)
    go true false p q ih =
        ap (λ s. cond s ([] ∷ fields_of (line_text bytes)) (to_first_field b (fields_of (line_text bytes)))) p
        ∙ ap (λ t. [] ∷ fields_after (text t)) (sym q)
    go false false p q ih =
        ap (λ s. cond s ([] ∷ fields_of (line_text bytes)) (to_first_field b (fields_of (line_text bytes)))) p
        ∙ ap (to_first_field b) ih

-- a field holds no LF
pub feed_after : (bytes : List ℕ) → has_line_feed bytes ≡ has_line_feed (drop (field_length bytes) bytes)
unfolding has_line_feed any_of field_length
feed_after [] = refl
feed_after (b ∷ bytes) = go (eqb b comma) (eqb b line_feed) refl (feed_after bytes)
  where
    go : (s t : Bool) → eqb b line_feed ≡ t → has_line_feed bytes ≡ has_line_feed (drop (field_length bytes) bytes) → has_line_feed (b ∷ bytes) ≡ has_line_feed (drop (cond (s || t) 0 (suc (field_length bytes))) (b ∷ bytes))
    go true t q ih = refl
    go false true q ih = refl
    go false false q ih = ap (λ t. t || has_line_feed bytes) q ∙ ih

pub up_to_after : (bytes : List ℕ) → bytes_before line_feed bytes ≡ field_length bytes + bytes_before line_feed (drop (field_length bytes) bytes)
unfolding bytes_before field_length
up_to_after [] = refl
up_to_after (b ∷ bytes) = go (eqb b comma) (eqb b line_feed) refl (up_to_after bytes)
  where
    go : (s t : Bool) → eqb b line_feed ≡ t → bytes_before line_feed bytes ≡ field_length bytes + bytes_before line_feed (drop (field_length bytes) bytes) → bytes_before line_feed (b ∷ bytes) ≡ cond (s || t) 0 (suc (field_length bytes)) + bytes_before line_feed (drop (cond (s || t) 0 (suc (field_length bytes))) (b ∷ bytes))
    go true t q ih = omega arith
    go false true q ih = omega arith
    go false false q ih = ap (λ t. cond t 0 (suc (bytes_before line_feed bytes))) q ∙ omega arith

-- where an LF stands, the first one is among the bytes
pub feed_found : (bytes : List ℕ) → has_line_feed bytes ≡ true → bytes_before line_feed bytes < length bytes
unfolding has_line_feed any_of bytes_before
feed_found [] e = absurd (both_ways e refl)
feed_found (b ∷ bytes) e = go (eqb b line_feed) e (feed_found bytes)
  where
    go : (t : Bool) → (t || any_of bytes (λ b. eqb b line_feed)) ≡ true → (any_of bytes (λ b. eqb b line_feed) ≡ true → bytes_before line_feed bytes < length bytes) → cond t 0 (suc (bytes_before line_feed bytes)) < suc (length bytes)
    go true e ih = omega arith
    go false e ih = suc-le-suc (ih e)

pub no_feed_lem : (bytes : List ℕ) → has_line_feed bytes ≡ false → length bytes ≤ bytes_before line_feed bytes
unfolding has_line_feed any_of bytes_before
no_feed_lem [] e = zero-le
no_feed_lem (b ∷ bytes) e = go (eqb b line_feed) e (no_feed_lem bytes)
  where
    go : (t : Bool) → (t || any_of bytes (λ b. eqb b line_feed)) ≡ false → (any_of bytes (λ b. eqb b line_feed) ≡ false → length bytes ≤ bytes_before line_feed bytes) → suc (length bytes) ≤ cond t 0 (suc (bytes_before line_feed bytes))
    go true e ih = absurd (both_ways refl e)
    go false e ih = suc-le-suc (ih e)
