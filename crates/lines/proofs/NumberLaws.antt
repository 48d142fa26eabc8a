-- Laws of the numbers that fields write: what is a digit, how large a value of digits gets, and which fields are numbers. Assumes nothing.
use Prim.Native.Nat.{ℕ, ◌+◌, ◌-◌, ◌*◌, ◌^◌, ◌≤◌, ◌<◌, min}
use mathlib.Core.Path.{◌≡◌, refl, sym, ap, ◌∙◌, subst}
use mathlib.Core.Bool.{Bool, true, false, cond, not, ◌&&◌, ◌||◌, or-true}
use mathlib.Core.List.{List, [], ◌∷◌}
use mathlib.Core.Logic.{◌⊎◌, inl, inr}
use native.Mathlib.Nat.{pow-suc}
use native.Mathlib.Numerals.{add-one}
use native.Mathlib.Omega.{arith}
use borrow.Author.Tests.{le-leb, lt-leb, leb-true, eq-eqb, ne_eqb}
use lib.ListN.{length, get_or}
use lib.Seq.{take_all}
use lib.Dec.{eqb, leb}
use Rattle.tariff.specs.Ranges.{within}
use Rattle.tariff.proofs.Tests.{decided, both_ways, and_both, and_join, and_left_false, and_right_false}
use Rattle.lines.specs.declared.text.Token.{Token}
use Rattle.std.specs.Prelude.{Some, None}
use Rattle.lines.specs.Text.{line_feed, comma, is_digit, all_digits, max_digits, is_number, value_after, value_of}
use Rattle.lines.specs.Reading.{leading, leading_digits, digits_at, field_at, numeral}
use Rattle.lines.proofs.LeadingLaws.{leading_few, leading_within, leading_take, leading_first, leading_all, all_leading, ReadTo, none_read, one_more, stops_at_other, stops_at_limit}

pub in_range : (low high x : ℕ) → low ≤ x → x ≤ high → within low high x ≡ true
unfolding within
in_range low high x l h = and_join (le-leb low x l) (le-leb x high h)

pub below_range : (low high x : ℕ) → x < low → within low high x ≡ false
unfolding within
below_range low high x l = and_left_false (leb x high) (lt-leb low x l)

-- one digit more
pub power_more : (v d i : ℕ) → v < 10 ^ i → d ≤ 9 → v * 10 + d < 10 ^ (i + 1)
power_more v d i l m = subst (λ p. v * 10 + d < p) (sym (ap (λ k. 10 ^ k) (add-one i) ∙ pow-suc 10 i)) (omega arith)

-- one digit, or a first byte other than 0: no leading zero
one_digit : (field : List ℕ) → 1 ≤ length field → length field ≤ 1 → (eqb (length field) 1 || not (eqb (get_or field 0 0) 48)) ≡ true
one_digit field l m = ap (λ t. t || not (eqb (get_or field 0 0) 48)) (eq-eqb (length field) 1 (omega arith))

no_zero_leads : (field : List ℕ) → (get_or field 0 0 ≡ 48 → ⊥) → (eqb (length field) 1 || not (eqb (get_or field 0 0) 48)) ≡ true
no_zero_leads field d = ap (λ t. eqb (length field) 1 || not t) (ne_eqb _ _ d) ∙ or-true (eqb (length field) 1)

-- digits are no commas and no LFs
pub digit_inside : (b : ℕ) → is_digit b ≡ true → (eqb b comma || eqb b line_feed) ≡ false
unfolding is_digit within
digit_inside b e =
    let low = leb-true 48 b (and_both (leb 48 b) (leb b 57) e).0 in
    rw (ne_eqb b comma (λ q. omega (arith, q)), ne_eqb b line_feed (λ q. omega (arith, q)))

digits_none : all_digits [] ≡ true
unfolding all_digits
digits_none = refl

pub digits_more : (b : ℕ) (bytes : List ℕ) → all_digits (b ∷ bytes) ≡ (is_digit b && all_digits bytes)
unfolding all_digits
digits_more b bytes = refl

-- a number is digits, and not too many
pub number_fits : (field : List ℕ) → is_number field ≡ true → (leb (length field) max_digits && all_digits field) ≡ true
unfolding is_number within
number_fits field e =
    let both = and_both (within 1 max_digits (length field) && all_digits field) (eqb (length field) 1 || not (eqb (get_or field 0 0) 48)) e in
    let digits = and_both (within 1 max_digits (length field)) (all_digits field) both.0 in
    and_join (and_both (leb 1 (length field)) (leb (length field) max_digits) digits.0).1 digits.1

-- one digit more
step : ℕ → ℕ → ℕ
step v b = v * 10 + (b - 48)

value_none : (v : ℕ) → value_after v [] ≡ v
unfolding value_after
value_none v = refl

value_more : (v b : ℕ) (bytes : List ℕ) → value_after v (b ∷ bytes) ≡ value_after (step v b) bytes
unfolding value_after step
value_more v b bytes = refl

-- i digits are read, of value v
pub DigitsTo : List ℕ → ℕ → ℕ → Type 0
DigitsTo = ReadTo is_digit max_digits value_after step value_none value_more

pub no_digits_yet : (bytes : List ℕ) → DigitsTo bytes 0 0
unfolding DigitsTo
no_digits_yet = none_read is_digit max_digits value_after step value_none value_more

module _ (bytes : List ℕ) (i v : ℕ) (so_far : DigitsTo bytes i v) where
  pub digit_more : is_digit (get_or bytes i 0) ≡ true → i < length bytes → i < max_digits → DigitsTo bytes (i + 1) (v * 10 + (get_or bytes i 0 - 48))
  unfolding DigitsTo step
  digit_more = one_more is_digit max_digits value_after step value_none value_more bytes i v so_far

  pub digits_stop : is_digit (get_or bytes i 0) ≡ false → i < length bytes → i < max_digits → record { value = v; end = i } ≡ digits_at bytes
  unfolding DigitsTo digits_at leading_digits value_of
  digits_stop = stops_at_other is_digit max_digits value_after step value_none value_more bytes i v so_far

  pub digits_end : min (length bytes) max_digits ≤ i → record { value = v; end = i } ≡ digits_at bytes
  unfolding DigitsTo digits_at leading_digits value_of
  digits_end = stops_at_limit is_digit max_digits value_after step value_none value_more bytes i v so_far

-- the number that digits are
module _ (bytes : List ℕ) (digits : Token) (read : digits ≡ digits_at bytes) where
  digits-length : digits.end ≡ length (leading_digits bytes)
  unfolding digits_at
  digits-length = ap (λ d. d.end) read

  refused : is_number (leading_digits bytes) ≡ false → None ≡ field_at bytes
  unfolding field_at
  refused e = sym (ap (λ t. cond t (Some (digits_at bytes)) None) e)

  pub no_digit : digits.end ≡ 0 → None ≡ field_at bytes
  unfolding is_number
  no_digit e =
      let long = digits-length in
      refused (and_left_false _ (and_left_false (all_digits (leading_digits bytes)) (below_range 1 max_digits (length (leading_digits bytes)) (omega arith))))

  pub zero_leads : 1 < digits.end → get_or bytes 0 0 ≡ 48 → None ≡ field_at bytes
  unfolding is_number leading_digits
  zero_leads l e =
      let field = leading is_digit max_digits bytes in
      let long = digits-length in
      let first : get_or field 0 0 ≡ 48 = leading_first is_digit max_digits bytes (omega arith) ∙ e in
      let leads : (eqb (length field) 1 || not (eqb (get_or field 0 0) 48)) ≡ false = rw (ne_eqb (length field) 1 (λ q. omega (arith, q)), eq-eqb (get_or field 0 0) 48 first) in
      refused (and_right_false (within 1 max_digits (length field) && all_digits field) leads)

  number_read : (digits.end ≡ 0 → ⊥) → (eqb (length (leading_digits bytes)) 1 || not (eqb (get_or (leading_digits bytes) 0 0) 48)) ≡ true → Some digits ≡ field_at bytes
  unfolding field_at is_number leading_digits
  number_read some leads =
      let field = leading is_digit max_digits bytes in
      let long = digits-length in
      let few = leading_few is_digit max_digits bytes in
      let size : within 1 max_digits (length field) ≡ true = in_range 1 max_digits (length field) (omega arith) few in
      let number = and_join (and_join size (leading_all is_digit all_digits digits_none digits_more max_digits bytes)) leads in
      ap Some read ∙ sym (ap (λ t. cond t (Some (digits_at bytes)) None) number)

  pub one_digit_read : (digits.end ≡ 0 → ⊥) → digits.end ≤ 1 → Some digits ≡ field_at bytes
  one_digit_read some l =
      let long = digits-length in
      let few : length (leading_digits bytes) ≤ 1 = omega arith in
      number_read some (one_digit (leading_digits bytes) (omega (arith, some)) few)

  pub other_first_read : (digits.end ≡ 0 → ⊥) → (get_or bytes 0 0 ≡ 48 → ⊥) → Some digits ≡ field_at bytes
  unfolding leading_digits
  other_first_read some other =
      let long = digits-length in
      number_read some (no_zero_leads (leading is_digit max_digits bytes) (λ e. other (sym (leading_first is_digit max_digits bytes (omega (arith, some))) ∙ e)))

  -- they end within the bytes
  pub digits_within : digits.end ≤ length bytes
  unfolding leading_digits
  digits_within = let long = digits-length in let part = leading_within is_digit max_digits bytes in omega arith

-- what is found says whether its digits are a number, and which
module _ (bytes : List ℕ) where
  pub field_invalid : None ≡ field_at bytes → is_number (leading_digits bytes) ≡ false
  unfolding field_at
  field_invalid read = go (is_number (leading_digits bytes)) read
    where
      go : (t : Bool) → None ≡ cond t (Some (digits_at bytes)) None → t ≡ false
      go true e = cc
      go false e = refl

  pub field_valid : (f : Token) → Some f ≡ field_at bytes → (is_number (leading_digits bytes) ≡ true) × (f ≡ digits_at bytes)
  unfolding field_at
  field_valid f read = go (is_number (leading_digits bytes)) read
    where
      go : (t : Bool) → Some f ≡ cond t (Some (digits_at bytes)) None → (t ≡ true) × (f ≡ digits_at bytes)
      go true e = (refl, cc)
      go false e = let z : ⊥ = cc in absurd z

-- all digits of a field are read, or it is no number
module _ (bytes : List ℕ) where
  none : (is_number bytes ≡ true → ⊥) → None ≡ numeral bytes
  unfolding numeral
  none other = sym (ap (λ t. cond t (Some (value_of bytes)) None) (go (decided (is_number bytes))))
    where
      go : (is_number bytes ≡ true) ⊎ (is_number bytes ≡ false) → is_number bytes ≡ false
      go (inl is) = absurd (other is)
      go (inr off) = off

  -- the digits of a number are all of it
  all_digits_lem : is_number bytes ≡ true → leading_digits bytes ≡ bytes
  unfolding leading_digits
  all_digits_lem is = let both = and_both (leb (length bytes) max_digits) (all_digits bytes) (number_fits bytes is) in all_leading is_digit all_digits digits_none digits_more max_digits bytes (leb-true (length bytes) max_digits both.0) both.1

  pub numeral_none : None ≡ field_at bytes → None ≡ numeral bytes
  numeral_none read = none (λ is. both_ways (ap is_number (all_digits_lem is) ∙ is) (field_invalid bytes read))

  module _ (f : Token) (read : Some f ≡ field_at bytes) where
    pub numeral_part : f.end < length bytes → None ≡ numeral bytes
    numeral_part l = none (λ is. let all = ap length (all_digits_lem is) in let end = digits-length bytes f (field_valid bytes f read).1 in omega arith)

    pub numeral_read : length bytes ≤ f.end → Some f.value ≡ numeral bytes
    unfolding numeral leading_digits digits_at
    numeral_read l =
        let found = field_valid bytes f read in
        let end = digits-length bytes f found.1 in
        let all : leading is_digit max_digits bytes ≡ bytes = leading_take is_digit max_digits bytes ∙ take_all (length (leading is_digit max_digits bytes)) bytes (omega arith) in
        ap (λ d. Some d.value) found.1 ∙ ap (λ ds. Some (value_of ds)) all ∙ sym (ap (λ t. cond t (Some (value_of bytes)) None) (sym (ap is_number all) ∙ found.0))
