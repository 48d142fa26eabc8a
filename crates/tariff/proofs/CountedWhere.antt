-- The same of an iterator over the numbers below a count that pass a test: it adds up what the rules' sum counts of them. Assumes nothing.
use Rattle.std.proofs.Common.{◌≡◌, ℕ, zero, suc, ◌+◌, ◌<◌, ◌≤◌, Bool, true, false, cond, List, [], ◌∷◌, map, refl, ap, sym, ◌∙◌, subst, arith}
use mathlib.Core.Path.{ap₂}
use denote.Ref.{Bor}
use denote.Param.Members.{Mut}
use Rattle.std.specs.declared.ops.Range.{Range}
use Rattle.std.specs.declared.iter.Map.{Map}
use Rattle.std.specs.declared.iter.Filter.{Filter}
use Rattle.std.proofs.iter.Yields.{nat_range_steps}
use Rattle.std.specs.Bool.{⊤}
use Rattle.std.specs.Fn.{CalledAt}
use Rattle.std.specs.Iterator.{CallableAtEachTurn, Drains}
use Rattle.std.specs.Iterator.Adapters.{map_source, map_callee, filter_source, filter_callee, filter_steps}
use Rattle.std.specs.Iterator.Runs.{EachRunFrom}
use Rattle.std.specs.List.{range_with_len, sum_by, fold, filter, All}
use Rattle.std.proofs.lemmas.List.Sums.{sum_by-append}
use Rattle.std.proofs.lemmas.List.Elements.{filter-append, All-get_or, All-from_get_or, All-filter}
use Rattle.std.proofs.lemmas.List.FromFn.{get_or-range_with_len, length-range_with_len}
use Rattle.std.proofs.lemmas.Iterator.{YieldsList, YieldsList-from_range, YieldsList-from_map, maps}
use Rattle.std.proofs.lemmas.Iterator.Consumers.{YieldsList-from_filter, YieldsList-at, sum_by_from_yields_List, fits_by_from_yields_list}
use Rattle.std.proofs.lemmas.Iterator.Adapters.{serves_from_places}
use Rattle.tariff.specs.Sum.{sum_to, when_true}
use Rattle.tariff.proofs.Counted.{range_last}
use Rattle.tariff.proofs.CountedSums.{Gives, counted_can}

-- a call of f answers whether a number passes, and leaves f as it was
abbrev pub Tests : {F : Type 0} → Mut F (Bor ℕ × Unit {0}) Bool → F → (ℕ → Bool) → Type 0
Tests {F} g f test = (k : ℕ) (b : Bool) (q : F) → CalledAt g f k b q → (q ≡ f) × (b ≡ test k)

module _ (test : ℕ → Bool) where
  passed : ℕ → List ℕ
  passed n = filter test (range_with_len 0 n)

  passed_below : (n : ℕ) → All (λ k. k < n) (passed n)
  unfolding passed
  passed_below n = All-filter test (λ k. k < n) (range_with_len 0 n) (All-from_get_or (λ k. k < n) (range_with_len 0 n) 0 (λ i l. let long = length-range_with_len 0 n in let is = get_or-range_with_len 0 n i 0 (omega arith) in omega arith))

  sum_by-passed : (value : ℕ → ℕ) (n : ℕ) → sum_by value (passed n) ≡ sum_to n (λ k. when_true (test k) (value k))
  unfolding passed sum_to when_true
  sum_by-passed value zero = refl
  sum_by-passed value (suc n) =
      ap (λ ks. sum_by value (filter test ks)) (range_last 0 n n (omega arith))
      ∙ ap (sum_by value) (filter-append test (range_with_len 0 n) (n ∷ []))
      ∙ sum_by-append value (passed n) (filter test (n ∷ []))
      ∙ ap₂ (λ a b. a + b) (sum_by-passed value n) (last (test n))
    where
      last : (b : Bool) → sum_by value (cond b (n ∷ []) []) ≡ cond b (value n) 0
      last true = let same : 0 + value n ≡ value n = omega arith in same
      last false = refl

module _ {E : Type 0} {t : Mut E (Bor ℕ × Unit {0}) Bool} {u v : Filter (Range ℕ) E} {n past : ℕ} (test : ℕ → Bool) (taken : v ≡ u) (source : filter_source u ≡ record { start = 0; end = past }) (same : past ≡ n) (tests : Tests t (filter_callee u) test) where
  road : YieldsList (filter_steps nat_range_steps t) (λ k. k) v (passed test n)
  unfolding passed
  road = YieldsList-at taken (YieldsList-from_filter t test (YieldsList-from_range 0 past n source (omega arith)) refl tests)

  -- what `sum` asks of the iterator: the test may be called at each number below n, and the closure that gives its value at each that passes
  pub where_can : {D F : Type 0} {K : D → ℕ → D → Type 0} {M : D → ℕ → Type 0} {d : D} {R : F → ℕ → F → Type 0} {Q : F → ℕ → Type 0} {f : F}
      → ((k : ℕ) (q : D) → K d k q → q ≡ d) → ((k : ℕ) → k < n → M d k) → ((k : ℕ) (q : F) → R f k q → q ≡ f) → ((k : ℕ) → k < n → Q f k) → (Unit {0} × Unit {0} × CallableAtEachTurn nat_range_steps K M (filter_source v) d) × CallableAtEachTurn (filter_steps nat_range_steps t) R Q v f
  where_can {Q = Q} {f = f} rests tried keeps may = (
    (tt, tt, (counted_can (ap filter_source taken ∙ source) same rests tried).1),
    serves_from_places road keeps (λ k i l e. subst (Q f) (sym e) (may _ (All-get_or (λ k. k < n) (passed test n) i k l (passed_below test n)))),
  )

module _ {E F : Type 0} {t : Mut E (Bor ℕ × Unit {0}) Bool} {g : Mut F (ℕ × Unit {0}) ℕ} {u : Filter (Range ℕ) E} {s : Map (Filter (Range ℕ) E) F} {test : ℕ → Bool} {value : ℕ → ℕ} {n past : ℕ}
    (taken : map_source s ≡ u) (source : filter_source u ≡ record { start = 0; end = past }) (same : past ≡ n) (tests : Tests t (filter_callee u) test) (gives : Gives g (map_callee s) value) where
  given : YieldsList (maps (filter_steps nat_range_steps t) g) (λ r. r) s (map value (passed test n))
  given = YieldsList-from_map g value (road test taken source same tests) refl gives

  pub where_fits : {most top : ℕ} → sum_to n (λ k. when_true (test k) (value k)) ≤ most → most < top → EachRunFrom (maps (filter_steps nat_range_steps t) g) s (λ p. fold (λ a x. a + x) 0 p.items < top)
  where_fits {most} {top} fits below = fits_by_from_yields_list value (passed test n) s top given (let same-sum = sum_by-passed test value n in omega arith)

  pub where_sum : {r : ℕ} → ((xs : List ℕ) × (⊤ → Drains (maps (filter_steps nat_range_steps t) g) s xs) × (r ≡ fold (λ a x. a + x) 0 xs)) → r ≡ sum_to n (λ k. when_true (test k) (value k))
  where_sum {r} ran = sum_by_from_yields_List value (passed test n) s r ran given ∙ sum_by-passed test value n
