-- Laws of words: letters as a number, two words with the same number, and the kind of a form's number. Assumes nothing.
use Prim.Native.Nat.{ℕ, suc, ◌+◌, ◌-◌, ◌*◌, ◌^◌, ◌≤◌, ◌<◌, min}
use mathlib.Core.Path.{◌≡◌, refl, sym, ap, ap₂, ◌∙◌, subst}
use mathlib.Core.Bool.{Bool, true, false, cond, ◌&&◌, ◌||◌}
use mathlib.Core.List.{List, [], ◌∷◌, reverse, reverse_aux, reverse-reverse}
use mathlib.Core.Logic.{◌⊎◌, inl, inr}
use native.Mathlib.Nat.{pow-suc, pow-le-pow_right, zero-lt-suc}
use native.Mathlib.Numerals.{add-one}
use native.Mathlib.Omega.{arith}
use borrow.Author.Tests.{eq-eqb, ne_eqb, eqb-true, leb-true}
use lib.ListN.{length, get_or}
use lib.Dec.{eqb, leb}
use Rattle.tariff.specs.Ranges.{within}
use Rattle.tariff.proofs.Tests.{and_both, and_join, and_left_false, and_right_false, both_ways, decided}
use Rattle.lines.specs.Text.{bytes_of, line_feed, comma}
use Rattle.lines.specs.declared.rows.LineKind.TheVariants.{Unreadable}
use Rattle.lines.specs.Rows.{max_fields, Form, form, forms, same_bytes, kind_among, kind_of}
use Rattle.lines.specs.Reading.{leading}
use Rattle.lines.specs.Words.{max_letters, is_letter, all_letters, key_after, letter_key, key_limit, leading_letters, word_at, is_word, word_key, count_limit, form_number, kind_in, kind_numbered}
use Rattle.lines.proofs.LeadingLaws.{leading_few, leading_all, ReadTo, none_read, one_more, stops_at_other, stops_at_limit}

letter_range : (b : ℕ) → is_letter b ≡ true → (97 ≤ b) × (b ≤ 122)
unfolding is_letter within
letter_range b e = let both = and_both (leb 97 b) (leb b 122) e in (leb-true 97 b both.0, leb-true b 122 both.1)

-- letters read from the last one on, five bits to a letter
low_key : List ℕ → ℕ
low_key [] = 0
low_key (b ∷ bytes) = low_key bytes * 32 + (b - 96)

low_key_lem : (xs read : List ℕ) → key_after (low_key read) xs ≡ low_key (reverse_aux xs read)
unfolding key_after low_key
low_key_lem [] read = refl
low_key_lem (b ∷ xs) read = low_key_lem xs (b ∷ read)

letters_turned : (xs read : List ℕ) → all_letters xs ≡ true → all_letters read ≡ true → all_letters (reverse_aux xs read) ≡ true
unfolding all_letters
letters_turned [] read e r = r
letters_turned (b ∷ xs) read e r = let both = and_both (is_letter b) (all_letters xs) e in letters_turned xs (b ∷ read) both.1 (and_join both.0 r)

-- letters with the same number are the same, from the last one on
same_low : (xs ys : List ℕ) → all_letters xs ≡ true → all_letters ys ≡ true → low_key xs ≡ low_key ys → xs ≡ ys
unfolding all_letters low_key
same_low [] [] a b e = refl
same_low [] (y ∷ ys) a b e = let range = letter_range y (and_both (is_letter y) (all_letters ys) b).0 in absurd (omega (arith, e))
same_low (x ∷ xs) [] a b e = let range = letter_range x (and_both (is_letter x) (all_letters xs) a).0 in absurd (omega (arith, e))
same_low (x ∷ xs) (y ∷ ys) a b e =
    let one = and_both (is_letter x) (all_letters xs) a in
    let two = and_both (is_letter y) (all_letters ys) b in
    let left = letter_range x one.0 in
    let right = letter_range y two.0 in
    let first : x ≡ y = omega (arith, e, left, right) in
    ap₂ (λ b bs. b ∷ bs) first (same_low xs ys one.1 two.1 (omega (arith, e, left, right)))

-- words with the same number are the same
same_key : (xs ys : List ℕ) → all_letters xs ≡ true → all_letters ys ≡ true → letter_key xs ≡ letter_key ys → xs ≡ ys
unfolding letter_key low_key all_letters
same_key xs ys a b e =
    sym (reverse-reverse xs)
    ∙ ap reverse (same_low (reverse xs) (reverse ys) (letters_turned xs [] a refl) (letters_turned ys [] b refl) (sym (low_key_lem xs []) ∙ e ∙ low_key_lem ys []))
    ∙ reverse-reverse ys

same_bytes_lem : (xs : List ℕ) → same_bytes xs xs ≡ true
unfolding same_bytes
same_bytes_lem [] = refl
same_bytes_lem (x ∷ xs) = and_join (eq-eqb x x refl) (same_bytes_lem xs)

same_word : (xs ys : List ℕ) → same_bytes xs ys ≡ true → xs ≡ ys
unfolding same_bytes
same_word [] [] e = refl
same_word [] (y ∷ ys) e = absurd (both_ways e refl)
same_word (x ∷ xs) [] e = absurd (both_ways e refl)
same_word (x ∷ xs) (y ∷ ys) e = let both = and_both (eqb x y) (same_bytes xs ys) e in ap₂ (λ b bs. b ∷ bs) (eqb-true x y both.0) (same_word xs ys both.1)

-- letters are no commas and no LFs
pub letter_inside : (b : ℕ) → is_letter b ≡ true → (eqb b comma || eqb b line_feed) ≡ false
letter_inside b e = let range = letter_range b e in rw (ne_eqb b comma (λ q. omega (arith, q, range)), ne_eqb b line_feed (λ q. omega (arith, q, range)))

pub letters_more : (b : ℕ) (bytes : List ℕ) → all_letters (b ∷ bytes) ≡ (is_letter b && all_letters bytes)
unfolding all_letters
letters_more b bytes = refl

pub letters_none : all_letters [] ≡ true
unfolding all_letters
letters_none = refl

-- one letter more
step : ℕ → ℕ → ℕ
step key b = key * 32 + (b - 96)

key_none : (key : ℕ) → key_after key [] ≡ key
unfolding key_after
key_none key = refl

key_more : (key b : ℕ) (bytes : List ℕ) → key_after key (b ∷ bytes) ≡ key_after (step key b) bytes
unfolding key_after step
key_more key b bytes = refl

-- i letters are read, as this number
pub LettersTo : List ℕ → ℕ → ℕ → Type 0
LettersTo = ReadTo is_letter max_letters key_after step key_none key_more

pub no_letters_yet : (bytes : List ℕ) → LettersTo bytes 0 0
unfolding LettersTo
no_letters_yet = none_read is_letter max_letters key_after step key_none key_more

module _ (bytes : List ℕ) (i key : ℕ) (so_far : LettersTo bytes i key) where
  pub letter_more : is_letter (get_or bytes i 0) ≡ true → i < length bytes → i < max_letters → LettersTo bytes (i + 1) (key * 32 + (get_or bytes i 0 - 97 + 1))
  unfolding LettersTo step
  letter_more e l m =
      let range = letter_range (get_or bytes i 0) e in
      let same : get_or bytes i 0 - 96 ≡ get_or bytes i 0 - 97 + 1 = omega arith in
      subst (λ d. LettersTo bytes (i + 1) (key * 32 + d)) same (one_more is_letter max_letters key_after step key_none key_more bytes i key so_far e l m)

  pub letters_stop : is_letter (get_or bytes i 0) ≡ false → i < length bytes → i < max_letters → record { value = key; end = i } ≡ word_at bytes
  unfolding LettersTo leading_letters word_at letter_key
  letters_stop = stops_at_other is_letter max_letters key_after step key_none key_more bytes i key so_far

  pub letters_end : min (length bytes) max_letters ≤ i → record { value = key; end = i } ≡ word_at bytes
  unfolding LettersTo leading_letters word_at letter_key
  letters_end = stops_at_limit is_letter max_letters key_after step key_none key_more bytes i key so_far

-- five bits to a letter
pub key_room : (key i : ℕ) → key < 32 ^ i → i < max_letters → key < 34359738368
key_room key i l m =
    let few : i ≤ 7 = omega arith in
    let most : 32 ^ i ≤ 32 ^ 7 = pow-le-pow_right (zero-lt-suc 31) few in
    omega arith

pub key_grows : (key d i : ℕ) → key < 32 ^ i → d ≤ 26 → key * 32 + d < 32 ^ (i + 1)
key_grows key d i l m = subst (λ p. key * 32 + d < p) (sym (ap (λ k. 32 ^ k) (add-one i) ∙ pow-suc 32 i)) (omega arith)

after_small : (xs : List ℕ) (key i : ℕ) → all_letters xs ≡ true → key < 32 ^ i → key_after key xs < 32 ^ (i + length xs)
unfolding all_letters key_after
after_small [] key i e l = subst (λ n. key < 32 ^ n) (let none : i ≡ i + 0 = omega arith in none) l
after_small (b ∷ xs) key i e l =
    let both = and_both (is_letter b) (all_letters xs) e in
    let range = letter_range b both.0 in
    let more : i + 1 + length xs ≡ i + suc (length xs) = omega arith in
    subst (λ n. key_after (key * 32 + (b - 96)) xs < 32 ^ n) more (after_small xs (key * 32 + (b - 96)) (i + 1) both.1 (key_grows key (b - 96) i l (omega (arith, range))))

-- the number of the letters at the start of a line
pub key_small : (bytes : List ℕ) → (word_at bytes).value < key_limit
unfolding word_at letter_key leading_letters
key_small bytes =
    let letters = leading is_letter max_letters bytes in
    let short = leading_few is_letter max_letters bytes in
    let few : 0 + length letters ≤ 8 = omega arith in
    let small : key_after 0 letters < 32 ^ (0 + length letters) = after_small letters 0 0 (leading_all is_letter all_letters letters_none letters_more max_letters bytes) (omega arith) in
    let most : 32 ^ (0 + length letters) ≤ 32 ^ 8 = pow-le-pow_right (zero-lt-suc 31) few in
    omega arith

-- a known word is found by its number
key_test : (word known : List ℕ) → is_word known ≡ true → 1 ≤ letter_key known → eqb (letter_key known) (word_key word) ≡ same_bytes word known
unfolding word_key is_word
key_test word known fit some = go (decided (same_bytes word known)) (decided (leb (length word) max_letters && all_letters word))
  where
    key : List ℕ → ℕ
    key w = cond (leb (length w) max_letters && all_letters w) (letter_key w) 0

    go : (same_bytes word known ≡ true) ⊎ (same_bytes word known ≡ false) → ((leb (length word) max_letters && all_letters word) ≡ true) ⊎ ((leb (length word) max_letters && all_letters word) ≡ false) → eqb (letter_key known) (key word) ≡ same_bytes word known
    go (inl same) w = eq-eqb (letter_key known) (key word) (sym (ap key (same_word word known same) ∙ ap (λ t. cond t (letter_key known) 0) fit)) ∙ sym same
    go (inr other) (inl w) = ne_eqb (letter_key known) (key word) (λ e. both_ways (ap (λ z. same_bytes z known) (same_key word known (and_both (leb (length word) max_letters) (all_letters word) w).1 (and_both (leb (length known) max_letters) (all_letters known) fit).1 (sym (e ∙ ap (λ t. cond t (letter_key word) 0) w))) ∙ same_bytes_lem known) other) ∙ sym other
    go (inr other) (inr w) = ne_eqb (letter_key known) (key word) (λ e. let none = e ∙ ap (λ t. cond t (letter_key word) 0) w in omega (arith, none)) ∙ sym other

-- every form has a word of letters and few enough fields
fits : Form → Bool
fits (form known fields kind) = (is_word (bytes_of known) && leb 1 (letter_key (bytes_of known))) && leb fields max_fields

all_fit : List Form → Bool
all_fit [] = true
all_fit (f ∷ later) = fits f && all_fit later

forms_fit : all_fit forms ≡ true
unfolding all_fit fits forms is_word all_letters is_letter letter_key key_after bytes_of within
forms_fit = refl

-- a word and a count of fields are the same where their one number is
number_test : (known key fields count : ℕ) → fields ≤ max_fields → count ≤ max_fields → eqb (key * count_limit + count) (known * count_limit + fields) ≡ (eqb known key && eqb fields count)
number_test known key fields count l m = go (decided (eqb known key)) (decided (eqb fields count))
  where
    go : (eqb known key ≡ true) ⊎ (eqb known key ≡ false) → (eqb fields count ≡ true) ⊎ (eqb fields count ≡ false) → eqb (key * count_limit + count) (known * count_limit + fields) ≡ (eqb known key && eqb fields count)
    go (inl p) (inl q) = eq-eqb _ _ (sym (ap₂ (λ k n. k * count_limit + n) (eqb-true known key p) (eqb-true fields count q))) ∙ sym (and_join p q)
    go (inr p) q = ne_eqb (key * count_limit + count) (known * count_limit + fields) (λ e. both_ways (eq-eqb known key (omega (arith, e))) p) ∙ sym (and_left_false (eqb fields count) p)
    go (inl p) (inr q) = ne_eqb (key * count_limit + count) (known * count_limit + fields) (λ e. both_ways (eq-eqb fields count (omega (arith, e))) q) ∙ sym (and_right_false (eqb known key) q)

-- a line has a form where the numbers say so
form_test : (word : List ℕ) (count : ℕ) (f : Form) (later : List Form) → count ≤ max_fields → fits f ≡ true → kind_among word count (f ∷ later) ≡ cond (eqb (word_key word * count_limit + count) (form_number f)) (kind_in f) (kind_among word count later)
unfolding form_number kind_among fits kind_in
form_test word count (form known fields kind) later few e =
    let parts = and_both (is_word (bytes_of known) && leb 1 (letter_key (bytes_of known))) (leb fields max_fields) e in
    let letters = and_both (is_word (bytes_of known)) (leb 1 (letter_key (bytes_of known))) parts.0 in
    ap (λ t. cond (t && eqb fields count) kind (kind_among word count later)) (sym (key_test word (bytes_of known) letters.0 (leb-true 1 (letter_key (bytes_of known)) letters.1)))
    ∙ ap (λ t. cond t kind (kind_among word count later)) (sym (number_test (letter_key (bytes_of known)) (word_key word) fields count (leb-true fields max_fields parts.1) few))

among_numbered : (word : List ℕ) (count : ℕ) (known : List Form) → count ≤ max_fields → all_fit known ≡ true → kind_among word count known ≡ kind_numbered (word_key word * count_limit + count) known
unfolding kind_among kind_numbered all_fit
among_numbered word count [] few e = refl
among_numbered word count (f ∷ later) few e =
    let both = and_both (fits f) (all_fit later) e in
    form_test word count f later few both.0
    ∙ ap (λ kind. cond (eqb (word_key word * count_limit + count) (form_number f)) (kind_in f) kind) (among_numbered word count later few both.1)

-- a line's kind is that of its number
pub kind_is : (word : List ℕ) (count key : ℕ) → key ≡ word_key word → count ≤ max_fields → kind_numbered (key * count_limit + count) forms ≡ kind_of word count
unfolding kind_of
kind_is word count key is few = ap (λ k. kind_numbered (k * count_limit + count) forms) is ∙ sym (among_numbered word count forms few forms_fit)

-- every form has a word, and no more fields than a row
proper : List Form → Bool
proper [] = true
proper (form known fields kind ∷ later) = is_word (bytes_of known) && leb fields max_fields && proper later

none_among : (word : List ℕ) (count : ℕ) (known : List Form) → proper known ≡ true → ((name : List ℕ) (fields : ℕ) → is_word name ≡ true → fields ≤ max_fields → (same_bytes word name && eqb fields count) ≡ false) → kind_among word count known ≡ Unreadable
unfolding proper kind_among
none_among word count [] e other = refl
none_among word count (form name fields kind ∷ later) e other =
    let both = and_both (is_word (bytes_of name) && leb fields max_fields) (proper later) e in
    let here = and_both (is_word (bytes_of name)) (leb fields max_fields) both.0 in
    ap (λ t. cond t kind (kind_among word count later)) (other (bytes_of name) fields here.0 (leb-true fields max_fields here.1))
    ∙ none_among word count later both.1 other

proper_forms : proper forms ≡ true
unfolding proper forms is_word all_letters is_letter bytes_of within
proper_forms = refl

-- no line has more fields than a row
pub no_form_lem : (word : List ℕ) (count : ℕ) → max_fields < count → Unreadable ≡ kind_of word count
unfolding kind_of
no_form_lem word count l = sym (none_among word count forms proper_forms (λ name fields w few. and_right_false (same_bytes word name) (ne_eqb fields count (λ same. omega (arith, same)))))

-- bytes that are no word begin no line
pub no_word : (word : List ℕ) (count : ℕ) → is_word word ≡ false → Unreadable ≡ kind_of word count
unfolding kind_of
no_word word count e = sym (none_among word count forms proper_forms (λ name fields w few. and_left_false (eqb fields count) (other name w (decided (same_bytes word name)))))
  where
    other : (name : List ℕ) → is_word name ≡ true → (same_bytes word name ≡ true) ⊎ (same_bytes word name ≡ false) → same_bytes word name ≡ false
    other name w (inl same) = absurd (both_ways (ap is_word (same_word word name same) ∙ w) e)
    other name w (inr none) = none
