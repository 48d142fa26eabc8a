-- Laws of reading bytes: where a line or a field ends, and what a script's first byte adds to its lines. Assumes nothing.
use Prim.Native.Nat.{ℕ, suc, ◌+◌, ◌≤◌, ◌<◌, zero-le, suc-le-suc}
use mathlib.Core.Path.{◌≡◌, refl, sym, ap, ◌∙◌}
use mathlib.Core.Bool.{Bool, true, false, cond, ◌||◌}
use mathlib.Core.List.{List, [], ◌∷◌}
use native.Mathlib.Nat.{not-suc-le-zero, le_of_suc-le-suc}
use native.Mathlib.Numerals.{add-one}
use native.Mathlib.Omega.{arith}
use borrow.Author.Tests.{ltb-false, ne_eqb}
use lib.ListN.{length, get_or, take, drop}
use lib.Seq.{drop-cons}
use lib.Dec.{eqb, ltb}
use Rattle.std.specs.Prelude.{Some, None, position}
use Rattle.std.specs.List.{position_or_len}
use Rattle.std.specs.Option.{unwrap_or}
use Rattle.std.proofs.lemmas.List.Recursion.{is_position_or_len}
use Rattle.lines.specs.Text.{line_feed, Line, ended, unended, to_first_line, lines_of}
use Rattle.lines.specs.Reading.{bytes_before}

pub up_to_le : (stop : ℕ) (bytes : List ℕ) → bytes_before stop bytes ≤ length bytes
unfolding bytes_before
up_to_le stop [] = zero-le
up_to_le stop (b ∷ bytes) = go (eqb b stop) (up_to_le stop bytes)
  where
    go : (t : Bool) → bytes_before stop bytes ≤ length bytes → cond t 0 (suc (bytes_before stop bytes)) ≤ suc (length bytes)
    go true ih = zero-le
    go false ih = suc-le-suc ih

-- what is at a byte's index, said of the bytes from it on
module _ {A : Type 0} (f : List ℕ → A) (bytes : List ℕ) (i : ℕ) (l : i < length bytes) where
  pub at_byte : f (drop i bytes) ≡ f (get_or bytes i 0 ∷ drop (i + 1) bytes)
  at_byte = ap f (drop-cons bytes i 0 l ∙ ap (λ n. get_or bytes i 0 ∷ drop n bytes) (sym (add-one i)))

-- as std counts them
before_place : (stop : ℕ) (bytes : List ℕ) → bytes_before stop bytes ≡ position_or_len (λ b. eqb b stop) bytes
unfolding bytes_before
before_place stop bytes = is_position_or_len (bytes_before stop) (λ b. eqb b stop) refl (λ b rest. ap (λ n. cond (eqb b stop) 0 n) (let more : suc (bytes_before stop rest) ≡ 1 + bytes_before stop rest = omega arith in more)) bytes

pub before_position : (stop : ℕ) (bytes : List ℕ) → unwrap_or (position (λ b. eqb b stop) bytes) (length bytes) ≡ bytes_before stop bytes
before_position stop bytes = go (ltb (position_or_len (λ b. eqb b stop) bytes) (length bytes)) refl ∙ sym (before_place stop bytes)
  where
    go : (t : Bool) → ltb (position_or_len (λ b. eqb b stop) bytes) (length bytes) ≡ t → unwrap_or (cond t (Some (position_or_len (λ b. eqb b stop) bytes)) None) (length bytes) ≡ position_or_len (λ b. eqb b stop) bytes
    go true e = refl
    go false e =
        let past = ltb-false (position_or_len (λ b. eqb b stop) bytes) (length bytes) e in
        let within = up_to_le stop bytes in
        let same = before_place stop bytes in
        omega arith

-- the lines of a script in which an LF stands: the bytes before the first, and the lines after it
pub line_ended : (rest : List ℕ) → bytes_before line_feed rest < length rest → lines_of rest ≡ ended (take (bytes_before line_feed rest) rest) ∷ lines_of (drop (suc (bytes_before line_feed rest)) rest)
unfolding bytes_before lines_of to_first_line
line_ended [] l = absurd (not-suc-le-zero l)
line_ended (b ∷ bytes) l = go (eqb b line_feed) (line_ended bytes) l
  where
    n : ℕ
    n = bytes_before line_feed bytes

    go : (t : Bool) → (n < length bytes → lines_of bytes ≡ ended (take n bytes) ∷ lines_of (drop (suc n) bytes)) → cond t 0 (suc n) < suc (length bytes) → cond t (ended [] ∷ lines_of bytes) (to_first_line b (lines_of bytes)) ≡ ended (take (cond t 0 (suc n)) (b ∷ bytes)) ∷ lines_of (drop (suc (cond t 0 (suc n))) (b ∷ bytes))
    go true ih l = refl
    go false ih l = ap (to_first_line b) (ih (le_of_suc-le-suc l))

-- bytes without an LF are one line without an end
pub line_unended : (b : ℕ) (bytes : List ℕ) → length (b ∷ bytes) ≤ bytes_before line_feed (b ∷ bytes) → lines_of (b ∷ bytes) ≡ unended (b ∷ bytes) ∷ []
unfolding bytes_before lines_of to_first_line
line_unended b [] l = go (eqb b line_feed) l
  where
    go : (t : Bool) → 1 ≤ cond t 0 1 → cond t (ended [] ∷ []) (unended (b ∷ []) ∷ []) ≡ unended (b ∷ []) ∷ []
    go true l = absurd (not-suc-le-zero l)
    go false l = refl
line_unended b (d ∷ bytes) l = go (eqb b line_feed) (line_unended d bytes) l
  where
    n : ℕ
    n = bytes_before line_feed (d ∷ bytes)

    go : (t : Bool) → (length (d ∷ bytes) ≤ n → lines_of (d ∷ bytes) ≡ unended (d ∷ bytes) ∷ []) → suc (length (d ∷ bytes)) ≤ cond t 0 (suc n) → cond t (ended [] ∷ lines_of (d ∷ bytes)) (to_first_line b (lines_of (d ∷ bytes))) ≡ unended (b ∷ d ∷ bytes) ∷ []
    go true ih l = absurd (not-suc-le-zero l)
    go false ih l = ap (to_first_line b) (ih (le_of_suc-le-suc l))

-- a byte before a script ends one more line where it is an LF, or where no line follows
pub lines_more : (b : ℕ) (bytes : List ℕ) → length (lines_of (b ∷ bytes)) ≡ cond (eqb b line_feed || eqb (length (lines_of bytes)) 0) (length (lines_of bytes) + 1) (length (lines_of bytes))
unfolding lines_of to_first_line
lines_more b bytes = go (eqb b line_feed) (lines_of bytes)
  where
    some : (n : ℕ) → n + 1 ≡ cond (eqb (n + 1) 0) (n + 1 + 1) (n + 1)
    some n = sym (ap (λ t. cond t (n + 1 + 1) (n + 1)) (ne_eqb (n + 1) 0 (λ e. omega (arith, e))))

    go : (t : Bool) (lines : List Line) → length (cond t (ended [] ∷ lines) (to_first_line b lines)) ≡ cond (t || eqb (length lines) 0) (length lines + 1) (length lines)
    go true lines = sym (add-one (length lines))
    go false [] = refl
    go false (ended text ∷ lines) = rw (← add-one (length lines)) (some (length lines))
    go false (unended text ∷ lines) = rw (← add-one (length lines)) (some (length lines))
