-- Texts written one after the other are one text, and the output keeps its length. Assumes nothing.
use Prim.Native.Nat.{ℕ, ◌+◌, ◌≤◌}
use mathlib.Core.Path.{◌≡◌, refl, sym, ap, ◌∙◌, subst}
use mathlib.Core.List.{List, [], ◌++◌, append-nil, append_assoc}
use native.Mathlib.Nat.{add-zero, add_assoc}
use native.Mathlib.Omega.{arith}
use lib.ListN.{length, take, drop, length-append, length-drop, take-append-drop}
use lib.Seq.{length-take-le, take_at, drop-append-add, drop-drop}
use Rattle.lines.specs.declared.output.Output.{Output}
use Rattle.lines.specs.Writing.{written_at, HasRoom, Wrote}

-- what stands before the end of a written text
front_length : (out : List ℕ) (at : ℕ) (text : List ℕ) → at + length text ≤ length out → length (take at out ++ text) ≡ at + length text
front_length out at text fits = length-append (take at out) text ∙ ap (λ n. n + length text) (length-take-le at out (omega arith))

pub written_length : (out : List ℕ) (at : ℕ) (text : List ℕ) → at + length text ≤ length out → length (written_at out at text) ≡ length out
unfolding written_at
written_length out at text fits =
    length-append (take at out ++ text) (drop (at + length text) out)
    ∙ (let front = front_length out at text fits in let back = length-drop (at + length text) out in omega arith)

pub written_again : (out : List ℕ) (at : ℕ) (xs ys : List ℕ) → at + length xs + length ys ≤ length out → written_at (written_at out at xs) (at + length xs) ys ≡ written_at out at (xs ++ ys)
unfolding written_at
written_again out at xs ys fits =
    ap (λ l. l ++ ys ++ drop (at + length xs + length ys) ((take at out ++ xs) ++ drop (at + length xs) out)) (take_at (take at out ++ xs) (drop (at + length xs) out) (at + length xs) front)
    ∙ ap (λ l. (take at out ++ xs) ++ ys ++ l) kept
    ∙ simp append_assoc
  where
    front : length (take at out ++ xs) ≡ at + length xs
    front = front_length out at xs (omega arith)

    kept : drop (at + length xs + length ys) ((take at out ++ xs) ++ drop (at + length xs) out) ≡ drop (at + length (xs ++ ys)) out
    kept =
        ap (λ n. drop (n + length ys) ((take at out ++ xs) ++ drop (at + length xs) out)) (sym front)
        ∙ drop-append-add (take at out ++ xs) (drop (at + length xs) out) (length ys)
        ∙ drop-drop (length ys) (at + length xs) out
        ∙ ap (λ n. drop n out) (add_assoc at (length xs) (length ys) ∙ ap (λ n. at + n) (sym (length-append xs ys)))

-- where nothing was written the output is as before
pub wrote_nothing : (out : Output) → out.length ≤ length out.bytes.now → Wrote out out []
unfolding written_at
wrote_nothing out within = (refl, omega arith, omega arith, sym (nothing out.length out.bytes.now))
  where
    nothing : (at : ℕ) (bytes : List ℕ) → take at bytes ++ [] ++ drop (at + 0) bytes ≡ bytes
    nothing at bytes = ap (λ front. front ++ drop (at + 0) bytes) (append-nil (take at bytes)) ∙ ap (λ n. take at bytes ++ drop n bytes) (add-zero at) ∙ take-append-drop at bytes

module _ (out : Output) (first : Output) (xs : List ℕ) (one : Wrote out first xs) where
  -- the buffer keeps its length
  pub same_length : length first.bytes.now ≡ length out.bytes.now
  same_length = ap length one.3 ∙ written_length out.bytes.now out.length xs one.1

  -- where there was room for two texts there is for the second
  pub room_left : (ys : List ℕ) → HasRoom out (xs ++ ys) → HasRoom first ys
  room_left ys room = let same = same_length in let begins = one.2 in let sum = length-append xs ys in omega arith

  -- a text written after another one: both are one text
  pub wrote_both : (second : Output) (ys : List ℕ) → Wrote first second ys → Wrote out second (xs ++ ys)
  wrote_both second ys two =
      let same = same_length in
      let begins = one.2 in
      let ends = two.2 in
      let room = two.1 in
      let sum = length-append xs ys in
      (two.0 ∙ one.0, omega arith, omega arith, two.3 ∙ (λ i. written_at (one.3 i) (one.2 i) ys) ∙ written_again out.bytes.now out.length xs ys (omega arith))

-- what is said of a written text holds of the same text in other words
pub wrote_as : (out last : Output) (text same : List ℕ) → text ≡ same → Wrote out last text → Wrote out last same
wrote_as out last text same e wrote = subst (Wrote out last) e wrote

-- room for a text is room for the same text
pub room_for : (out : Output) (text same : List ℕ) → text ≡ same → HasRoom out same → HasRoom out text
room_for out text same e room = subst (HasRoom out) (sym e) room
