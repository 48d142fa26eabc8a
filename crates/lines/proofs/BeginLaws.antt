-- Laws of the bytes that a line begins with: no LF stands among them, and they are read one by one. Assumes nothing.
use Prim.Native.Nat.{ℕ, suc}
use mathlib.Core.Path.{◌≡◌, refl, sym, ap, ap₂, ◌∙◌}
use mathlib.Core.Bool.{Bool, true, false, cond, ◌&&◌}
use mathlib.Core.List.{List, [], ◌∷◌}
use borrow.Author.Tests.{eq-eqb, eqb-true, eqb-false, ne_eqb}
use lib.ListN.{length, take}
use lib.Dec.{eqb}
use Rattle.std.specs.List.{starts_with}
use Rattle.std.specs.Cmp.Lexicographic.{pointwise}
use Rattle.tariff.proofs.Tests.{and_left_false, both_ways}
use Rattle.lines.specs.Text.{bytes_of, line_feed, comma}
use Rattle.lines.specs.declared.rows.LineKind.TheVariants.{BrokenSet}
use Rattle.lines.specs.Rows.{same_bytes, begins_set, row, unreadable_row, unread_row}
use Rattle.lines.specs.Reading.{bytes_before, line_text}

-- none of these bytes is an LF
no_feed : List ℕ → Bool
no_feed [] = true
no_feed (c ∷ word) = cond (eqb c line_feed) false (no_feed word)

-- bytes without an LF begin a script where they begin its first line
begin_line : (word rest : List ℕ) → no_feed word ≡ true → same_bytes (take (length word) (line_text rest)) word ≡ same_bytes (take (length word) rest) word
unfolding no_feed line_text bytes_before same_bytes
begin_line [] rest e = refl
begin_line (c ∷ word) [] e = refl
begin_line (c ∷ word) (b ∷ rest) e = go (eqb c line_feed) (eqb b line_feed) refl refl e (begin_line word rest)
  where
    go : (s t : Bool) → eqb c line_feed ≡ s → eqb b line_feed ≡ t → cond s false (no_feed word) ≡ true → (no_feed word ≡ true → same_bytes (take (length word) (line_text rest)) word ≡ same_bytes (take (length word) rest) word) → same_bytes (take (length (c ∷ word)) (take (cond t 0 (suc (bytes_before line_feed rest))) (b ∷ rest))) (c ∷ word) ≡ (eqb b c && same_bytes (take (length word) rest) word)
    go true t p q e ih = absurd (both_ways e refl)
    go false true p q e ih = sym (and_left_false _ (ne_eqb b c (λ same. eqb-false c line_feed p (sym same ∙ eqb-true b line_feed q))))
    go false false p q e ih = ap (λ t. eqb b c && t) (ih e)

pub line_begins : (rest : List ℕ) → unread_row (line_text rest) ≡ unread_row rest
unfolding unread_row begins_set bytes_of no_feed
line_begins rest = ap (λ t. cond t (row BrokenSet []) unreadable_row) (begin_line (bytes_of "set,") rest refl)

eqb_turned : (x y : ℕ) → eqb x y ≡ eqb y x
eqb_turned x y = go (eqb x y) refl
  where
    go : (t : Bool) → eqb x y ≡ t → t ≡ eqb y x
    go true e = sym (eq-eqb y x (sym (eqb-true x y e)))
    go false e = sym (ne_eqb y x (λ same. eqb-false x y e (sym same)))

-- the same bytes, as std compares them
same_pointwise : (xs ys : List ℕ) → pointwise eqb ys xs ≡ same_bytes xs ys
unfolding same_bytes
same_pointwise [] [] = refl
same_pointwise [] (y ∷ ys) = refl
same_pointwise (x ∷ xs) [] = refl
same_pointwise (x ∷ xs) (y ∷ ys) = ap₂ (λ s t. s && t) (eqb_turned y x) (same_pointwise xs ys)

pub starts_set : (rest : List ℕ) → starts_with eqb rest (115 ∷ 101 ∷ 116 ∷ comma ∷ []) ≡ begins_set rest
unfolding begins_set bytes_of
starts_set rest = same_pointwise (take 4 rest) (bytes_of "set,")
