-- Laws of the next line: its bytes and its row, and a script's rows, which are the next line's and those of the bytes after it. Assumes nothing.
use Prim.Native.Nat.{ℕ, suc, ◌+◌, ◌≤◌, ◌<◌}
use mathlib.Core.Path.{◌≡◌, refl, sym, ap, ◌∙◌, subst}
use mathlib.Core.Bool.{true, false}
use mathlib.Core.List.{List, [], ◌∷◌, map}
use mathlib.Core.Logic.{⊎_elim}
use native.Mathlib.Omega.{arith}
use borrow.Author.Tests.{ltb-true, ltb-false}
use lib.ListN.{length, take, drop, length-map}
use lib.Seq.{length-take-le, drop-length}
use lib.Dec.{ltb}
use Rattle.tariff.proofs.Tests.{decided}
use Rattle.lines.specs.Text.{bytes_of, line_feed, Line, ended, unended, lines_of, fields_of}
use Rattle.lines.specs.Rows.{same_bytes, begins_set, unread_row, row_of_fields, row_of, rows_of}
use Rattle.lines.specs.Reading.{bytes_before, line_text, has_line_feed, first_row, first_bytes, next_row}
use Rattle.lines.proofs.TextLaws.{up_to_le, line_ended, line_unended}
use Rattle.lines.proofs.LineFields.{feed_found, no_feed_lem}

-- the next line has an end
module _ (rest : List ℕ) (n : ℕ) (e : n ≡ bytes_before line_feed rest) (l : n < length rest) where
  first_ended : lines_of rest ≡ ended (take n rest) ∷ lines_of (drop (suc n) rest)
  first_ended = line_ended rest (omega arith) ∙ ap (λ k. ended (take k rest) ∷ lines_of (drop (suc k) rest)) (sym e)

  pub ended_bytes : n + 1 ≡ first_bytes (lines_of rest)
  unfolding first_bytes
  ended_bytes = sym (ap first_bytes first_ended ∙ ap (λ k. k + 1) (length-take-le n rest (omega arith)))

-- no LF is left
pub unended_bytes : (rest : List ℕ) (n : ℕ) → n ≡ bytes_before line_feed rest → length rest ≤ n → n ≡ first_bytes (lines_of rest)
unfolding first_bytes lines_of
unended_bytes [] n e l = let none = up_to_le line_feed [] in omega arith
unended_bytes (b ∷ bytes) n e l =
    let most = up_to_le line_feed (b ∷ bytes) in
    let all : n ≡ length (b ∷ bytes) = omega arith in
    all ∙ sym (ap first_bytes (line_unended b bytes (omega arith)))

pub ended_row : (rest : List ℕ) → has_line_feed rest ≡ true → first_row (lines_of rest) ≡ row_of_fields (unread_row (line_text rest)) (fields_of (line_text rest))
unfolding first_row row_of line_text
ended_row rest e = ap first_row (line_ended rest (feed_found rest e))

pub unended_row : (rest : List ℕ) → has_line_feed rest ≡ false → first_row (lines_of rest) ≡ unread_row rest
unfolding first_row row_of lines_of unread_row begins_set same_bytes bytes_of
unended_row [] e = refl
unended_row (b ∷ bytes) e = ap first_row (line_unended b bytes (no_feed_lem (b ∷ bytes) e))

-- the lines of a script are the first one and those of the bytes after it
data FirstOf : List ℕ → Type 0 where
  with-end : {rest : List ℕ} (text : List ℕ) → lines_of rest ≡ ended text ∷ lines_of (drop (length text + 1) rest) → length text + 1 ≤ length rest → FirstOf rest
  without : {rest : List ℕ} → 1 ≤ length rest → lines_of rest ≡ unended rest ∷ [] → FirstOf rest

first_of : (b : ℕ) (bytes : List ℕ) → FirstOf (b ∷ bytes)
first_of b bytes = ⊎_elim (λ t. end-at (ltb-true n (length rest) t)) (λ t. without (omega arith) (line_unended b bytes (ltb-false n (length rest) t))) (decided (ltb n (length rest)))
  where
    rest : List ℕ
    rest = b ∷ bytes

    n : ℕ
    n = bytes_before line_feed (b ∷ bytes)

    end-at : n < length rest → FirstOf rest
    end-at l =
        let width : length (take n rest) ≡ n = length-take-le n rest (omega arith) in
        let after : suc n ≡ length (take n rest) + 1 = omega arith in
        with-end (take n rest) (line_ended rest l ∙ ap (λ k. ended (take n rest) ∷ lines_of (drop k rest)) after) (omega arith)

module _ (b : ℕ) (bytes : List ℕ) where
  pub next_rows : rows_of (b ∷ bytes) ≡ (next_row (b ∷ bytes)).row ∷ rows_of (drop (next_row (b ∷ bytes)).consumed (b ∷ bytes))
  unfolding rows_of next_row first_row first_bytes lines_of
  next_rows = go (first_of b bytes)
    where
      both : (lines : List Line) → lines_of (b ∷ bytes) ≡ lines → map row_of lines ≡ first_row lines ∷ map row_of (lines_of (drop (first_bytes lines) (b ∷ bytes))) → map row_of (lines_of (b ∷ bytes)) ≡ first_row (lines_of (b ∷ bytes)) ∷ map row_of (lines_of (drop (first_bytes (lines_of (b ∷ bytes))) (b ∷ bytes)))
      both lines e p = subst (λ ls. map row_of ls ≡ first_row ls ∷ map row_of (lines_of (drop (first_bytes ls) (b ∷ bytes)))) (sym e) p

      go : FirstOf (b ∷ bytes) → map row_of (lines_of (b ∷ bytes)) ≡ first_row (lines_of (b ∷ bytes)) ∷ map row_of (lines_of (drop (first_bytes (lines_of (b ∷ bytes))) (b ∷ bytes)))
      go (with-end text e l) = both _ e refl
      go (without l e) = both _ e (ap (λ left. row_of (unended (b ∷ bytes)) ∷ map row_of (lines_of left)) (sym (drop-length (b ∷ bytes))))

  pub next_some : 1 ≤ (next_row (b ∷ bytes)).consumed
  unfolding next_row first_bytes
  next_some = go (first_of b bytes)
    where
      go : FirstOf (b ∷ bytes) → 1 ≤ first_bytes (lines_of (b ∷ bytes))
      go (with-end text e l) = subst (λ ls. 1 ≤ first_bytes ls) (sym e) (omega arith)
      go (without l e) = subst (λ ls. 1 ≤ first_bytes ls) (sym e) (omega arith)

  pub next_fits : (next_row (b ∷ bytes)).consumed ≤ length (b ∷ bytes)
  unfolding next_row first_bytes
  next_fits = go (first_of b bytes)
    where
      go : FirstOf (b ∷ bytes) → first_bytes (lines_of (b ∷ bytes)) ≤ length (b ∷ bytes)
      go (with-end text e l) = subst (λ ls. first_bytes ls ≤ length (b ∷ bytes)) (sym e) l
      go (without l e) = subst (λ ls. first_bytes ls ≤ length (b ∷ bytes)) (sym e) (omega arith)

pub row_count : (script : List ℕ) → length (rows_of script) ≡ length (lines_of script)
unfolding rows_of
row_count script = length-map (lines_of script) row_of
