-- What an iterator over the numbers below a count adds up, where it gives a value of each: the rules' sum of the values, if it fits. Assumes nothing.
use Rattle.std.proofs.Common.{◌≡◌, ℕ, zero, suc, ◌+◌, ◌<◌, ◌≤◌, refl, ap, ◌∙◌, arith}
use mathlib.Core.List.{List, map}
use denote.Param.Members.{Mut, Called}
use Rattle.std.specs.declared.ops.Range.{Range}
use Rattle.std.specs.declared.iter.Map.{Map}
use Rattle.std.proofs.iter.Yields.{nat_range_steps}
use Rattle.std.specs.Bool.{⊤}
use Rattle.std.specs.Iterator.{CallableAtEachTurn, Drains}
use Rattle.std.specs.Iterator.Adapters.{map_source, map_callee}
use Rattle.std.specs.Iterator.Runs.{EachRunFrom}
use Rattle.std.specs.List.{range_with_len, sum_by, fold}
use Rattle.std.proofs.lemmas.List.Sums.{sum_by_push}
use Rattle.std.proofs.lemmas.Iterator.{YieldsList, YieldsList-from_range, YieldsList-from_map, maps, serves_from_Range}
use Rattle.std.proofs.lemmas.Iterator.Consumers.{sum_by_from_yields_List, fits_by_from_yields_list}
use Rattle.tariff.specs.Sum.{sum_to}
use Rattle.tariff.proofs.Counted.{range_last}

sum_by-range : (value : ℕ → ℕ) (n : ℕ) → sum_by value (range_with_len 0 n) ≡ sum_to n value
unfolding sum_to
sum_by-range value zero = refl
sum_by-range value (suc n) = ap (sum_by value) (range_last 0 n n (omega arith)) ∙ sum_by_push value (range_with_len 0 n) n ∙ ap (λ k. k + value n) (sum_by-range value n)

-- a call of f gives the value of a number, and leaves f as it was
abbrev pub Gives : {F : Type 0} → Mut F (ℕ × Unit {0}) ℕ → F → (ℕ → ℕ) → Type 0
Gives {F} g f value = (k r : ℕ) (q : F) → Called g f (k, tt) r q → (q ≡ f) × (r ≡ value k)

-- what `sum` asks of the iterator: the closure may be called at each number below n
pub counted_can : {P : Type 0} {R : P → ℕ → P → Type 0} {Q : P → ℕ → Type 0} {s : Range ℕ} {p : P} {n past : ℕ} → s ≡ record { start = 0; end = past } → past ≡ n → ((k : ℕ) (q : P) → R p k q → q ≡ p) → ((k : ℕ) → k < n → Q p k) → Unit {0} × CallableAtEachTurn nat_range_steps R Q s p
counted_can {s = s} {n = n} source same keeps may = (tt, serves_from_Range keeps (λ k low high. may k (let last = ap (λ r. r.end) source in omega arith)))

module _ {F : Type 0} {g : Mut F (ℕ × Unit {0}) ℕ} {s : Map (Range ℕ) F} {value : ℕ → ℕ} {n past : ℕ} (source : map_source s ≡ record { start = 0; end = past }) (same : past ≡ n) where
  given : Gives g (map_callee s) value → YieldsList (maps nat_range_steps g) (λ r. r) s (map value (range_with_len 0 n))
  given gives = YieldsList-from_map g value (YieldsList-from_range 0 past n source (omega arith)) refl gives

  pub counted_fits : {most top : ℕ} → sum_to n value ≤ most → most < top → Gives g (map_callee s) value → EachRunFrom (maps nat_range_steps g) s (λ p. fold (λ a x. a + x) 0 p.items < top)
  counted_fits {most} {top} fits below gives = fits_by_from_yields_list value (range_with_len 0 n) s top (given gives) (let same-sum = sum_by-range value n in omega arith)

  pub counted_sum : {r : ℕ} → ((xs : List ℕ) × (⊤ → Drains (maps nat_range_steps g) s xs) × (r ≡ fold (λ a x. a + x) 0 xs)) → Gives g (map_callee s) value → r ≡ sum_to n value
  counted_sum {r} ran gives = sum_by_from_yields_List value (range_with_len 0 n) s r ran (given gives) ∙ sum_by-range value n
