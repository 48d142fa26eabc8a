-- Laws of the bytes at the start that pass a test: read one after another, and read out of a field. Assumes nothing.
use Prim.Native.Nat.{ℕ, zero, suc, ◌+◌, ◌-◌, ◌≤◌, ◌<◌, min}
use mathlib.Core.Path.{◌≡◌, refl, sym, ap, ap₂, ◌∙◌}
use mathlib.Core.Bool.{Bool, true, false, cond, ◌&&◌, ◌||◌}
use mathlib.Core.List.{List, [], ◌∷◌}
use mathlib.Core.Logic.{◌⊎◌, inl, inr}
use native.Mathlib.Nat.{zero-add}
use native.Mathlib.Omega.{arith}
use borrow.Author.Tests.{leb-true, leb-false, le-leb}
use lib.ListN.{length, get_or, take, drop, drop_of_length-le}
use lib.Seq.{length-take-le}
use lib.Dec.{eqb, leb}
use Rattle.tariff.proofs.Tests.{decided, both_ways, and_both, and_join}
use Rattle.lines.specs.declared.text.Token.{Token}
use Rattle.lines.specs.Text.{line_feed, comma}
use Rattle.lines.specs.Reading.{leading, field_ends}
use Rattle.lines.proofs.TextLaws.{at_byte}
use Rattle.lines.proofs.LineFields.{field_length, first_field, first_length, field_ended}

-- a byte of a part stands before the part's end
pub below_limit : (bytes : List ℕ) (limit i : ℕ) → limit ≤ length bytes → i < length (take limit bytes) → i < limit
below_limit bytes limit i within there = let long = length-take-le limit bytes within in omega arith

none_leading : (test : ℕ → Bool) (bytes : List ℕ) → leading test 0 bytes ≡ []
unfolding leading
none_leading test [] = refl
none_leading test (b ∷ bytes) = refl

pub leading_few : (test : ℕ → Bool) (most : ℕ) (bytes : List ℕ) → length (leading test most bytes) ≤ most
unfolding leading
leading_few test most [] = omega arith
leading_few test zero (b ∷ bytes) = omega arith
leading_few test (suc most) (b ∷ bytes) = go (test b) (leading_few test most bytes)
  where
    go : (t : Bool) → length (leading test most bytes) ≤ most → length (cond t (b ∷ leading test most bytes) []) ≤ suc most
    go true ih = omega arith
    go false ih = omega arith

pub leading_within : (test : ℕ → Bool) (most : ℕ) (bytes : List ℕ) → length (leading test most bytes) ≤ length bytes
unfolding leading
leading_within test most [] = omega arith
leading_within test zero (b ∷ bytes) = omega arith
leading_within test (suc most) (b ∷ bytes) = go (test b) (leading_within test most bytes)
  where
    go : (t : Bool) → length (leading test most bytes) ≤ length bytes → length (cond t (b ∷ leading test most bytes) []) ≤ suc (length bytes)
    go true ih = omega arith
    go false ih = omega arith

pub leading_take : (test : ℕ → Bool) (most : ℕ) (bytes : List ℕ) → leading test most bytes ≡ take (length (leading test most bytes)) bytes
unfolding leading
leading_take test most [] = refl
leading_take test zero (b ∷ bytes) = refl
leading_take test (suc most) (b ∷ bytes) = go (test b) (leading_take test most bytes)
  where
    go : (t : Bool) → leading test most bytes ≡ take (length (leading test most bytes)) bytes → cond t (b ∷ leading test most bytes) [] ≡ take (length (cond t (b ∷ leading test most bytes) [])) (b ∷ bytes)
    go true ih = ap (λ bs. b ∷ bs) ih
    go false ih = refl

-- the first of them is the first byte
pub leading_first : (test : ℕ → Bool) (most : ℕ) (bytes : List ℕ) → 0 < length (leading test most bytes) → get_or (leading test most bytes) 0 0 ≡ get_or bytes 0 0
unfolding leading
leading_first test most [] l = refl
leading_first test zero (b ∷ bytes) l = absurd (let z : ⊥ = omega arith in z)
leading_first test (suc most) (b ∷ bytes) l = go (test b) l
  where
    go : (t : Bool) → 0 < length (cond t (b ∷ leading test most bytes) []) → get_or (cond t (b ∷ leading test most bytes) []) 0 0 ≡ b
    go true l = refl
    go false l = absurd (let z : ⊥ = omega arith in z)

-- at most so many are read, and the reading is at i
module _ (test : ℕ → Bool) (bytes : List ℕ) (most i : ℕ) where
  next : (t : Bool) → test (get_or bytes i 0) ≡ t → i < length bytes → i < most → leading test (most - i) (drop i bytes) ≡ cond t (get_or bytes i 0 ∷ leading test (most - (i + 1)) (drop (i + 1) bytes)) []
  unfolding leading
  next t e l m =
      let one : most - i ≡ suc (most - (i + 1)) = omega arith in
      ap (λ n. leading test n (drop i bytes)) one
      ∙ at_byte (leading test (suc (most - (i + 1)))) bytes i l
      ∙ ap (λ t. cond t (get_or bytes i 0 ∷ leading test (most - (i + 1)) (drop (i + 1) bytes)) []) e

  leading-more : test (get_or bytes i 0) ≡ true → i < length bytes → i < most → leading test (most - i) (drop i bytes) ≡ get_or bytes i 0 ∷ leading test (most - (i + 1)) (drop (i + 1) bytes)
  leading-more e l m = next true e l m

  leading-stops : test (get_or bytes i 0) ≡ false → i < length bytes → i < most → leading test (most - i) (drop i bytes) ≡ []
  leading-stops e l m = next false e l m

  -- so many are passed, or the bytes are
  leading-ends : min (length bytes) most ≤ i → leading test (most - i) (drop i bytes) ≡ []
  unfolding leading
  leading-ends l = go (decided (leb (length bytes) i))
    where
      go : (leb (length bytes) i ≡ true) ⊎ (leb (length bytes) i ≡ false) → leading test (most - i) (drop i bytes) ≡ []
      go (inl all) = ap (leading test (most - i)) (drop_of_length-le bytes (leb-true (length bytes) i all))
      go (inr part) = let more = leb-false (length bytes) i part in let none : most - i ≡ 0 = omega arith in ap (λ n. leading test n (drop i bytes)) none ∙ none_leading test (drop i bytes)

-- bytes of the test as a number, that of those before them being given
module _ (test : ℕ → Bool) (most : ℕ) (after : ℕ → List ℕ → ℕ) (step : ℕ → ℕ → ℕ) (after_none : (v : ℕ) → after v [] ≡ v) (After-more : (v b : ℕ) (bytes : List ℕ) → after v (b ∷ bytes) ≡ after (step v b) bytes) where
  -- what is read of them at a place, after others of value v
  unfoldable pub token_from : ℕ → ℕ → List ℕ → Token
  token_from v at bytes = record { value = after v bytes; end = at + length bytes }

  -- those up to i are read, of value v
  abbrev pub ReadTo : List ℕ → ℕ → ℕ → Type 0
  ReadTo bytes i v = token_from 0 0 (leading test most bytes) ≡ token_from v i (leading test (most - i) (drop i bytes))

  pub none_read : (bytes : List ℕ) → ReadTo bytes 0 0
  none_read bytes = let all : most - 0 ≡ most = omega arith in sym (ap (λ n. token_from 0 0 (leading test n bytes)) all)

  -- all that is read of them
  abbrev pub all_read : List ℕ → Token
  all_read bytes = record { value = after 0 (leading test most bytes); end = length (leading test most bytes) }

  from_start : (bytes : List ℕ) → token_from 0 0 (leading test most bytes) ≡ all_read bytes
  unfolding token_from
  from_start bytes = let read = leading test most bytes in ap (λ n. record { value = after 0 read; end = n }) (zero-add (length read))

  module _ (bytes : List ℕ) (i v : ℕ) (so_far : ReadTo bytes i v) where
    pub one_more : test (get_or bytes i 0) ≡ true → i < length bytes → i < most → ReadTo bytes (i + 1) (step v (get_or bytes i 0))
    unfolding token_from
    one_more e l m =
        let later = leading test (most - (i + 1)) (drop (i + 1) bytes) in
        let more : i + suc (length later) ≡ i + 1 + length later = omega arith in
        so_far
        ∙ ap (token_from v i) (leading-more test bytes most i e l m)
        ∙ ap₂ (λ x n. record { value = x; end = n }) (After-more v (get_or bytes i 0) later) more

    stops : leading test (most - i) (drop i bytes) ≡ [] → record { value = v; end = i } ≡ all_read bytes
    unfolding token_from
    stops e =
        let none : i + 0 ≡ i = omega arith in
        sym (so_far ∙ ap (token_from v i) e ∙ ap₂ (λ x n. record { value = x; end = n }) (after_none v) none) ∙ from_start bytes

    pub stops_at_other : test (get_or bytes i 0) ≡ false → i < length bytes → i < most → record { value = v; end = i } ≡ all_read bytes
    stops_at_other e l m = stops (leading-stops test bytes most i e l m)

    pub stops_at_limit : min (length bytes) most ≤ i → record { value = v; end = i } ≡ all_read bytes
    stops_at_limit l = stops (leading-ends test bytes most i l)

-- whether all bytes of a list pass the test
module _ (test : ℕ → Bool) (all : List ℕ → Bool) (All-none : all [] ≡ true) (All-more : (b : ℕ) (bytes : List ℕ) → all (b ∷ bytes) ≡ (test b && all bytes)) where
  pub leading_all : (most : ℕ) (bytes : List ℕ) → all (leading test most bytes) ≡ true
  unfolding leading
  leading_all most [] = All-none
  leading_all zero (b ∷ bytes) = All-none
  leading_all (suc most) (b ∷ bytes) = go (test b) refl (leading_all most bytes)
    where
      go : (t : Bool) → test b ≡ t → all (leading test most bytes) ≡ true → all (cond t (b ∷ leading test most bytes) []) ≡ true
      go true e ih = All-more b (leading test most bytes) ∙ and_join e ih
      go false e ih = All-none

  -- not too many bytes of the test are read all
  pub all_leading : (most : ℕ) (bytes : List ℕ) → length bytes ≤ most → all bytes ≡ true → leading test most bytes ≡ bytes
  unfolding leading
  all_leading most [] l e = refl
  all_leading zero (b ∷ bytes) l e = absurd (let z : ⊥ = omega arith in z)
  all_leading (suc most) (b ∷ bytes) l e =
      let both = and_both (test b) (all bytes) (sym (All-more b bytes) ∙ e) in
      ap (λ t. cond t (b ∷ leading test most bytes) []) both.0 ∙ ap (λ bs. b ∷ bs) (all_leading most bytes (omega arith) both.1)

-- a test that no comma and no LF passes, and whether all bytes of a list pass it
module _ (test : ℕ → Bool) (inside : (b : ℕ) → test b ≡ true → (eqb b comma || eqb b line_feed) ≡ false) (all : List ℕ → Bool) (All-more : (b : ℕ) (bytes : List ℕ) → all (b ∷ bytes) ≡ (test b && all bytes)) where
  -- bytes of the test up to a field's end are the field
  pub leading_field : (most : ℕ) (bytes : List ℕ) → field_ends (drop (length (leading test most bytes)) bytes) ≡ true → leading test most bytes ≡ first_field bytes
  unfolding leading field_ends first_field field_length
  leading_field most [] e = refl
  leading_field zero (b ∷ bytes) e = ap (λ t. take (cond t 0 (suc (field_length bytes))) (b ∷ bytes)) (sym e)
  leading_field (suc most) (b ∷ bytes) e = go (test b) (eqb b comma || eqb b line_feed) refl refl e (leading_field most bytes)
    where
      go : (s t : Bool) → test b ≡ s → (eqb b comma || eqb b line_feed) ≡ t → field_ends (drop (length (cond s (b ∷ leading test most bytes) [])) (b ∷ bytes)) ≡ true → (field_ends (drop (length (leading test most bytes)) bytes) ≡ true → leading test most bytes ≡ take (field_length bytes) bytes) → cond s (b ∷ leading test most bytes) [] ≡ take (cond t 0 (suc (field_length bytes))) (b ∷ bytes)
      go true true p q e ih = absurd (both_ways q (inside b p))
      go true false p q e ih = ap (λ bs. b ∷ bs) (ih e)
      go false true p q e ih = refl
      go false false p q e ih = absurd (both_ways e q)

  -- a field of the test that is not too long is read
  pub field_leading : (most : ℕ) (bytes : List ℕ) → (leb (length (first_field bytes)) most && all (first_field bytes)) ≡ true → leading test most bytes ≡ first_field bytes
  unfolding leading first_field field_length
  field_leading most [] e = refl
  field_leading zero (b ∷ bytes) e = go (eqb b comma || eqb b line_feed) e
    where
      go : (t : Bool) → (leb (length (take (cond t 0 (suc (field_length bytes))) (b ∷ bytes))) 0 && all (take (cond t 0 (suc (field_length bytes))) (b ∷ bytes))) ≡ true → [] ≡ take (cond t 0 (suc (field_length bytes))) (b ∷ bytes)
      go true e = refl
      go false e = let small = leb-true (suc (length (take (field_length bytes) bytes))) 0 (and_both (leb (suc (length (take (field_length bytes) bytes))) 0) (all (b ∷ take (field_length bytes) bytes)) e).0 in absurd (omega (arith, small))
  field_leading (suc most) (b ∷ bytes) e = go (test b) (eqb b comma || eqb b line_feed) refl refl e (field_leading most bytes)
    where
      tail : List ℕ
      tail = take (field_length bytes) bytes

      go : (s t : Bool) → test b ≡ s → (eqb b comma || eqb b line_feed) ≡ t → (leb (length (take (cond t 0 (suc (field_length bytes))) (b ∷ bytes))) (suc most) && all (take (cond t 0 (suc (field_length bytes))) (b ∷ bytes))) ≡ true → ((leb (length tail) most && all tail) ≡ true → leading test most bytes ≡ tail) → cond s (b ∷ leading test most bytes) [] ≡ take (cond t 0 (suc (field_length bytes))) (b ∷ bytes)
      go true true p q e ih = absurd (both_ways q (inside b p))
      go true false p q e ih =
          let both = and_both (leb (suc (length tail)) (suc most)) (all (b ∷ tail)) e in
          let small = leb-true (suc (length tail)) (suc most) both.0 in
          let rest = and_both (test b) (all tail) (sym (All-more b tail) ∙ both.1) in
          ap (λ bs. b ∷ bs) (ih (and_join (le-leb (length tail) most (omega (arith, small))) rest.1))
      go false true p q e ih = refl
      go false false p q e ih =
          let both = and_both (leb (suc (length tail)) (suc most)) (all (b ∷ tail)) e in
          absurd (both_ways (and_both (test b) (all tail) (sym (All-more b tail) ∙ both.1)).0 p)

  -- where the field goes on after them, it is too long or has another byte
  pub field_continues : (most : ℕ) (bytes : List ℕ) → field_ends (drop (length (leading test most bytes)) bytes) ≡ false → (leb (length (first_field bytes)) most && all (first_field bytes)) ≡ false
  field_continues most bytes e = go (decided (leb (length (first_field bytes)) most && all (first_field bytes)))
    where
      go : ((leb (length (first_field bytes)) most && all (first_field bytes)) ≡ true) ⊎ ((leb (length (first_field bytes)) most && all (first_field bytes)) ≡ false) → (leb (length (first_field bytes)) most && all (first_field bytes)) ≡ false
      go (inl fit) = absurd (both_ways (ap (λ n. field_ends (drop n bytes)) (ap length (field_leading most bytes fit) ∙ first_length bytes) ∙ field_ended bytes) e)
      go (inr unfit) = unfit
