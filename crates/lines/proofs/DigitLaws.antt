-- The digits of a number, found from the last to the first, and how many there are. Assumes nothing.
use Prim.Native.Nat.{ℕ, zero, suc, ◌+◌, ◌-◌, ◌/◌, ◌%◌, ◌^◌, ◌≤◌, ◌<◌}
use mathlib.Core.Path.{◌≡◌, refl, sym, ap, ◌∙◌, subst}
use mathlib.Core.Bool.{Bool, true, false, cond}
use mathlib.Core.List.{List, [], ◌∷◌, ◌++◌, append_assoc}
use native.Mathlib.Nat.{pow-suc, div-lt_iff_lt-mul}
use native.Mathlib.Numerals.{add-one}
use native.Mathlib.Omega.{arith}
use lib.Dec.{ltb}
use lib.ListN.{length, set, drop, length-append}
use lib.Seq.{drop-cons, lt-length-set, get_or-set_same, drop-set-lt}
use borrow.Author.Tests.{ltb-false, lt-ltb, le-ltb}
use Rattle.lines.specs.Text.{digit, digits_of}

-- a number below 10 is one digit
pub one_digit : (most rest : ℕ) → rest < 10 → digits_of (suc most) rest ≡ digit rest ∷ []
unfolding digits_of
one_digit most rest small = rw (lt-ltb rest 10 small)

-- any other ends in the digit of its remainder
pub last_digit : (most rest : ℕ) → 10 ≤ rest → digits_of (suc most) rest ≡ digits_of most (rest / 10) ++ (digit (rest % 10) ∷ [])
unfolding digits_of
last_digit most rest large = rw (le-ltb rest 10 large)

-- the list from a stored byte on
pub from_stored : (l : List ℕ) (i d : ℕ) → i < length l → drop i (set l i d) ≡ d ∷ drop (i + 1) l
from_stored l i d h =
    drop-cons (set l i d) i 0 (lt-length-set l i d h)
    ∙ ap (λ x. x ∷ drop (suc i) (set l i d)) (get_or-set_same l i d 0 h)
    ∙ ap (◌∷◌ d) (drop-set-lt (suc i) l i d (omega arith) ∙ ap (λ n. drop n l) (sym (add-one i)))

-- with a tenth of the number left, there is one place less
tenth : (n rest : ℕ) → rest < 10 ^ suc n → rest / 10 < 10 ^ n
tenth n rest l = (div-lt_iff_lt-mul {k = 10} {x = rest} {y = 10 ^ n} (omega arith)).1 (subst (λ x. rest < x) (pow-suc 10 n) l)

pub place_left : (first rest : ℕ) → rest < 10 ^ (first + 1) → 10 ≤ rest → (1 ≤ first) × (rest / 10 < 10 ^ (first - 1 + 1))
place_left zero rest l large = absurd (omega arith)
place_left (suc n) rest l large =
    (omega arith, subst (λ k. rest / 10 < 10 ^ k) (omega arith) (tenth (suc n) rest (subst (λ k. rest < 10 ^ k) (add-one (suc n)) l)))

-- one digit more stands in front of those that were found
pub digit_found : (digits : List ℕ) (first rest d : ℕ) → 1 ≤ first → first < length digits → 10 ≤ rest → d ≡ digit (rest % 10) → digits_of (first - 1 + 1) (rest / 10) ++ drop (first - 1 + 1) (set digits first d) ≡ digits_of (first + 1) rest ++ drop (first + 1) digits
digit_found digits first rest d low fits large e =
    ap (λ n. digits_of n (rest / 10) ++ drop n (set digits first d)) (let same : first - 1 + 1 ≡ first = omega arith in same)
    ∙ ap (λ l. digits_of first (rest / 10) ++ l) (from_stored digits first d fits ∙ ap (λ x. x ∷ drop (first + 1) digits) e)
    ∙ sym (append_assoc (digits_of first (rest / 10)) (digit (rest % 10) ∷ []) (drop (first + 1) digits))
    ∙ ap (λ l. l ++ drop (first + 1) digits) (sym (last_digit first rest large) ∙ ap (λ n. digits_of n rest) (sym (add-one first)))

-- the first digit stands in front of all
pub first_found : (digits : List ℕ) (first rest d : ℕ) → first < length digits → rest < 10 → d ≡ digit rest → drop first (set digits first d) ≡ digits_of (first + 1) rest ++ drop (first + 1) digits
first_found digits first rest d fits small e =
    from_stored digits first d fits
    ∙ ap (λ x. x ∷ drop (first + 1) digits) e
    ∙ ap (λ l. l ++ drop (first + 1) digits) (sym (one_digit first rest small) ∙ ap (λ n. digits_of n rest) (sym (add-one first)))

-- a number below 10 ^ n has at most n digits
pub digits_few : (most n v : ℕ) → v < 10 ^ suc n → length (digits_of most v) ≤ suc n
unfolding digits_of
digits_few zero n v l = omega arith
digits_few (suc most) n v l = go n l (λ k. digits_few most k (v / 10)) (ltb v 10) refl
  where
    go : (k : ℕ) → v < 10 ^ suc k → ((j : ℕ) → v / 10 < 10 ^ suc j → length (digits_of most (v / 10)) ≤ suc j) → (t : Bool) → ltb v 10 ≡ t → length (cond t (digit v ∷ []) (digits_of most (v / 10) ++ (digit (v % 10) ∷ []))) ≤ suc k
    go k l rest true e = omega arith
    go zero l rest false e = absurd (let large = ltb-false v 10 e in omega arith)
    go (suc k) l rest false e = simp length-append (let fewer = rest k (tenth (suc k) v l) in omega arith)
