-- Figures that a holder posts once, each at most the most kW: a column's sum is at most the most kW for each holder who has posted. Assumes nothing.
use Prim.Native.Nat.{ℕ, ◌+◌, ◌*◌, ◌≤◌, ◌<◌}
use mathlib.Core.Path.{◌≡◌, refl, sym, ap, ◌∙◌}
use mathlib.Core.Bool.{Bool, true, false, ◌&&◌, ◌||◌}
use mathlib.Core.Logic.{◌⊎◌, inl, inr}
use native.Mathlib.Nat.{le_trans}
use native.Mathlib.Omega.{arith}
use lib.Dec.{eqb}
use borrow.Author.Tests.{eqb-true}
use Rattle.tariff.specs.Sum.{when_true, sum_to}
use Rattle.tariff.proofs.Sums.{when_is_true, when_is_false, when_le, sum_ext, sum_bound}
use Rattle.tariff.proofs.Tests.{and_both, decided}
use Rattle.tariff.specs.Ranges.{max_kw}
use Rattle.ledger.proofs.Columns.{column_plus}

-- a column v of n holders is no more than the most kW for each of those marked
abbrev pub Once : ℕ → (ℕ → ℕ) → (ℕ → Bool) → Type 0
Once n v marked = sum_to n v ≤ sum_to n (λ h. when_true (marked h) max_kw)

-- so its sum is at most n times the most kW
pub once_bound : (n : ℕ) (v : ℕ → ℕ) (marked : ℕ → Bool) → Once n v marked → sum_to n v ≤ n * max_kw
once_bound n v marked b = le_trans b (sum_bound {f = λ h. when_true (marked h) max_kw} max_kw n (λ i l. when_le (marked i) max_kw))

new_posting : (a m : Bool) → (a ≡ true → m ≡ false) → when_true (a || m) max_kw ≡ when_true m max_kw + when_true a max_kw
unfolding when_true
new_posting true m k = rw (k refl)
new_posting false true k = refl
new_posting false false k = refl

-- holder x, not marked so far, posts up to the most kW and is marked. What it posts goes into this column (w) only where it is marked there (u)
pub once_post : (n x kw : ℕ) (w u : Bool) (v : ℕ → ℕ) (marked : ℕ → Bool) (posts postings : ℕ → Bool) → ((h : ℕ) → posts h ≡ (eqb h x && w)) → ((h : ℕ) → postings h ≡ (eqb h x && u)) → x < n → kw ≤ max_kw → (w ≡ true → u ≡ true) → (u ≡ true → marked x ≡ false) → Once n v marked → Once n (λ h. v h + when_true (posts h) kw) (λ h. postings h || marked h)
once_post n x kw w u v marked posts postings at_post at_posting l high there new old =
    let grown =
    sum_ext {f = λ h. v h + when_true (posts h) kw} {g = λ h. v h + when_true (eqb h x && w) kw} n (λ h i. ap (λ b. v h + when_true b kw) (at_post h)) ∙ column_plus v n x w kw l in
    let more =
    sum_ext {f = λ h. when_true (postings h || marked h) max_kw} {g = λ h. when_true (marked h) max_kw + when_true (eqb h x && u) max_kw} n (λ h i. new_posting (postings h) (marked h) (unposted h) ∙ ap (λ b. when_true (marked h) max_kw + when_true b max_kw) (at_posting h))
    ∙ column_plus (λ h. when_true (marked h) max_kw) n x u max_kw l in
    let fewer = added (decided w) in
    omega arith
  where
    unposted : (h : ℕ) → postings h ≡ true → marked h ≡ false
    unposted h e = let both = and_both (eqb h x) u (sym (at_posting h) ∙ e) in ap marked (eqb-true h x both.0) ∙ new both.1

    added : (w ≡ true) ⊎ (w ≡ false) → when_true w kw ≤ when_true u max_kw
    added (inl e) = let a = when_is_true kw e in let b = when_is_true max_kw (there e) in omega arith
    added (inr e) = let a = when_is_false kw e in omega arith
