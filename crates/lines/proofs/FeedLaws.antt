-- LFs counted, byte by byte and chunk by chunk, and how many lines they say there are. Assumes nothing.
use Prim.Native.Nat.{ℕ, zero, suc, ◌+◌, ◌-◌, ◌*◌, ◌/◌, ◌≤◌}
use mathlib.Core.Path.{◌≡◌, refl, sym, ap, ap₂, ◌∙◌}
use mathlib.Core.Bool.{Bool, true, false, cond, ◌||◌}
use mathlib.Core.List.{List, [], ◌∷◌, ◌++◌}
use native.Mathlib.Omega.{arith}
use borrow.Author.Tests.{eq-eqb, ne_eqb}
use lib.ListN.{length, get_or, take, drop, take-append-drop}
use lib.Dec.{eqb}
use Rattle.std.specs.List.{sum_by}
use Rattle.std.proofs.lemmas.List.{drop-drop}
use Rattle.std.specs.Simd.{first_chunks}
use Rattle.std.proofs.lemmas.List.Sums.{sum_by-cons}
use Rattle.lines.specs.Text.{line_feed, ended, unended, lines_of, to_first_line}
use Rattle.lines.specs.Reading.{chunk_bytes, line_feeds_in}
use Rattle.lines.proofs.TextLaws.{lines_more}

feeds_append : (xs ys : List ℕ) → line_feeds_in (xs ++ ys) ≡ line_feeds_in xs + line_feeds_in ys
unfolding line_feeds_in
feeds_append [] ys = omega arith
feeds_append (x ∷ xs) ys = go (eqb x line_feed) (feeds_append xs ys)
  where
    go : (t : Bool) → line_feeds_in (xs ++ ys) ≡ line_feeds_in xs + line_feeds_in ys → cond t (suc (line_feeds_in (xs ++ ys))) (line_feeds_in (xs ++ ys)) ≡ cond t (suc (line_feeds_in xs)) (line_feeds_in xs) + line_feeds_in ys
    go true ih = omega arith
    go false ih = ih

-- there are no more than bytes
pub feeds_few : (bytes : List ℕ) → line_feeds_in bytes ≤ length bytes
unfolding line_feeds_in
feeds_few [] = omega arith
feeds_few (b ∷ bytes) = go (eqb b line_feed) (feeds_few bytes)
  where
    go : (t : Bool) → line_feeds_in bytes ≤ length bytes → cond t (suc (line_feeds_in bytes)) (line_feeds_in bytes) ≤ suc (length bytes)
    go true ih = omega arith
    go false ih = omega arith

-- what a byte adds to the count
abbrev pub one_if_feed : ℕ → ℕ
one_if_feed b = cond (eqb b line_feed) 1 0

sum_of_feeds : (bytes : List ℕ) → sum_by one_if_feed bytes ≡ line_feeds_in bytes
unfolding line_feeds_in
sum_of_feeds [] = refl
sum_of_feeds (b ∷ bytes) = sum_by-cons one_if_feed b bytes ∙ go (eqb b line_feed) (sum_of_feeds bytes)
  where
    go : (t : Bool) → sum_by one_if_feed bytes ≡ line_feeds_in bytes → cond t 1 0 + sum_by one_if_feed bytes ≡ cond t (suc (line_feeds_in bytes)) (line_feeds_in bytes)
    go true ih = omega arith
    go false ih = omega arith

-- how the code has it
pub feeds_summed : (feeds : ℕ) (bytes : List ℕ) → feeds ≡ sum_by one_if_feed bytes → feeds ≡ line_feeds_in bytes
feeds_summed feeds bytes e = e ∙ sum_of_feeds bytes

-- those of k chunks of n bytes, and of what stands after them
feeds_in_chunks : (n k : ℕ) (bytes : List ℕ) → sum_by line_feeds_in (first_chunks n k bytes) + line_feeds_in (drop (k * n) bytes) ≡ line_feeds_in bytes
feeds_in_chunks n zero bytes = let none : 0 * n ≡ 0 = omega arith in let same = ap (λ i. line_feeds_in (drop i bytes)) none in omega arith
feeds_in_chunks n (suc k) bytes =
    let chunk = sum_by-cons line_feeds_in (take n bytes) (first_chunks n k (drop n bytes)) in
    let later = feeds_in_chunks n k (drop n bytes) in
    let apart = feeds_append (take n bytes) (drop n bytes) in
    let whole = ap line_feeds_in (take-append-drop n bytes) in
    let place : n + k * n ≡ suc k * n = omega arith in
    let left = ap line_feeds_in (drop-drop (k * n) n bytes ∙ ap (λ i. drop i bytes) place) in
    omega arith

-- how the code has it: a is the sum of the chunks, b that of what stands after them
module _ (bytes : List ℕ) (chunks : List (List ℕ)) (front : chunks ≡ first_chunks chunk_bytes (length bytes / chunk_bytes) bytes) where
  parts : (rest : List ℕ) → rest ≡ drop (length bytes / chunk_bytes * chunk_bytes) bytes → sum_by line_feeds_in chunks + line_feeds_in rest ≡ line_feeds_in bytes
  parts rest back = ap₂ (λ cs r. sum_by line_feeds_in cs + line_feeds_in r) front back ∙ feeds_in_chunks chunk_bytes (length bytes / chunk_bytes) bytes

  pub chunks_few : sum_by line_feeds_in chunks ≤ length bytes
  chunks_few = let all = parts _ refl in let few = feeds_few bytes in omega arith

  module _ (rest : List ℕ) (a b : ℕ) (back : rest ≡ drop (length bytes / chunk_bytes * chunk_bytes) bytes) (p : a ≡ sum_by line_feeds_in chunks) (q : b ≡ line_feeds_in rest) where
    pub parts_summed : a + b ≡ line_feeds_in bytes
    parts_summed = let all = parts rest back in omega arith

    pub parts_few : a + b ≤ length bytes
    parts_few = let all = parts_summed in let few = feeds_few bytes in omega arith

-- bytes are a line or more
some_lines : (b : ℕ) (bytes : List ℕ) → (length (lines_of (b ∷ bytes)) ≡ 0) → ⊥
some_lines b bytes e = go (eqb b line_feed) (length (lines_of bytes)) (sym (lines_more b bytes) ∙ e)
  where
    go : (t : Bool) (n : ℕ) → cond (t || eqb n 0) (n + 1) n ≡ 0 → ⊥
    go true n z = omega arith
    go false zero z = omega arith
    go false (suc n) z = omega (arith, sym (ap (λ u. cond u (suc n + 1) (suc n)) (ne_eqb (suc n) 0 (λ w. omega (arith, w)))) ∙ z)

-- a line to each LF, and one more where the last byte is none
pub lines_by_feeds : (b : ℕ) (bytes : List ℕ) → length (lines_of (b ∷ bytes)) ≡ line_feeds_in (b ∷ bytes) + cond (eqb (get_or (b ∷ bytes) (length bytes) 0) line_feed) 0 1
unfolding line_feeds_in lines_of to_first_line
lines_by_feeds b [] = go (eqb b line_feed)
  where
    go : (t : Bool) → length (cond t (ended [] ∷ []) (unended (b ∷ []) ∷ [])) ≡ cond t 1 0 + cond t 0 1
    go true = refl
    go false = refl
lines_by_feeds b (d ∷ bytes) = lines_more b (d ∷ bytes) ∙ ap (λ u. cond (eqb b line_feed || u) (n + 1) n) (ne_eqb n 0 (some_lines d bytes)) ∙ go (eqb b line_feed) (lines_by_feeds d bytes)
  where
    n : ℕ
    n = length (lines_of (d ∷ bytes))

    m : ℕ
    m = line_feeds_in (d ∷ bytes)

    more : ℕ
    more = cond (eqb (get_or (d ∷ bytes) (length bytes) 0) line_feed) 0 1

    go : (t : Bool) → n ≡ m + more → cond (t || false) (n + 1) n ≡ cond t (suc m) m + more
    go true ih = omega arith
    go false ih = ih

-- how the code has it
pub no_bytes : (bytes : List ℕ) → length bytes ≡ 0 → 0 ≡ length (lines_of bytes)
unfolding lines_of
no_bytes [] e = refl
no_bytes (b ∷ bytes) e = absurd (omega (arith, e))

module _ (bytes : List ℕ) (some : length bytes ≡ 0 → ⊥) where
  abbrev last : ℕ
  last = get_or bytes (length bytes - 1) 0

  by_last : length (lines_of bytes) ≡ line_feeds_in bytes + cond (eqb last line_feed) 0 1
  by_last = go bytes some
    where
      go : (xs : List ℕ) → (length xs ≡ 0 → ⊥) → length (lines_of xs) ≡ line_feeds_in xs + cond (eqb (get_or xs (length xs - 1) 0) line_feed) 0 1
      go [] none = absurd (none refl)
      go (b ∷ xs) none = lines_by_feeds b xs ∙ ap (λ k. line_feeds_in (b ∷ xs) + cond (eqb (get_or (b ∷ xs) k 0) line_feed) 0 1) (let same : length xs ≡ suc (length xs) - 1 = omega arith in same)

  pub feed_last : last ≡ line_feed → line_feeds_in bytes ≡ length (lines_of bytes)
  feed_last e = let all = by_last ∙ ap (λ t. line_feeds_in bytes + cond t 0 1) (eq-eqb last line_feed e) in omega arith

  pub other_last : (last ≡ line_feed → ⊥) → line_feeds_in bytes + 1 ≡ length (lines_of bytes)
  other_last e = let all = by_last ∙ ap (λ t. line_feeds_in bytes + cond t 0 1) (ne_eqb last line_feed e) in omega arith
