-- What an iterator over the numbers below a count folds to, where a call takes the total so far to the next one. Assumes nothing.
use Rattle.std.proofs.Common.{◌≡◌, ℕ, ◌+◌, ◌<◌, ◌≤◌, List, [], ◌∷◌, ◌++◌, map, length, get_or, refl, ap, sym, ◌∙◌, subst, length-append, length-take, get_or-take, take_all, arith}
use lib.ListN.{get_or-append, take}
use mathlib.Core.List.{map-id}
use denote.Param.Members.{Mut, Called}
use Rattle.std.specs.declared.ops.Range.{Range}
use Rattle.std.proofs.iter.Yields.{nat_range_steps}
use Rattle.std.specs.declared.option.Option.TheVariants.{None, Some}
use Rattle.std.specs.Fn.{Takes}
use Rattle.std.specs.Iterator.{CallableInFold, FoldsItems, FoldTurn}
use Rattle.std.specs.List.{range_with_len}
use Rattle.std.proofs.lemmas.Fn.{serves_by, chained_keeps}
use Rattle.std.proofs.lemmas.List.{get_or_at}
use Rattle.std.proofs.lemmas.List.FromFn.{get_or-range_with_len, length-range_with_len}
use Rattle.std.proofs.lemmas.Iterator.{YieldsList, YieldsList-from_range}
use Rattle.std.proofs.lemmas.Iterator.Consumers.{YieldsList-so_far, YieldsList-turn, YieldsList-end}

-- the numbers of a list are 0, 1 and so on
abbrev CountsUp : List ℕ → Type 0
CountsUp xs = (k : ℕ) → k < length xs → get_or xs k 0 ≡ k

counts_up : (xs : List ℕ) (m n : ℕ) → length xs ≤ n → map (λ k. k) xs ≡ take m (range_with_len 0 n) → CountsUp xs
counts_up xs m n few is k l =
    let long = length-range_with_len 0 n in
    let same : xs ≡ take m (range_with_len 0 n) = sym (map-id xs) ∙ is in
    let short = ap length same in
    let taken = length-take m (range_with_len 0 n) in
    let here = ap (λ ys. get_or ys k 0) same ∙ get_or-take m (range_with_len 0 n) k 0 (omega arith) ∙ get_or-range_with_len 0 n k 0 (omega arith) in
    omega arith

module _ {F B : Type 0} {g : Mut F (B × (ℕ × Unit {0})) B} {f : F} {init : B} {s : Range ℕ} {n past : ℕ} (total : ℕ → B) (source : s ≡ record { start = 0; end = past }) (same : past ≡ n) (first : init ≡ total 0) (turn : (k : ℕ) (a b : B) (q : F) → Called g f (a, (k, tt)) b q → (q ≡ f) × (a ≡ total k → b ≡ total (k + 1))) where
  road : YieldsList nat_range_steps (λ k. k) s (range_with_len 0 n)
  road = YieldsList-from_range 0 past n source (omega arith)

  abbrev So : List ℕ → F × B → Type 0
  So xs p = (p.0 ≡ f) × (CountsUp xs → p.1 ≡ total (length xs))

  keeps : (xs : List ℕ) (p : F × B) (x : ℕ) (q : F × B) → So xs p → FoldTurn g p x q → So (xs ++ (x ∷ [])) q
  keeps xs p x q so called =
      let here = turn x p.1 q.1 q.0 (subst (λ e. Called g e (p.1, (x, tt)) q.1 q.0) so.0 called) in
      let long = length-append xs (x ∷ []) in (
        here.0,
        λ up.
            let before : CountsUp xs = λ k l. sym (get_or-append xs (x ∷ []) 0 k l) ∙ up k (omega arith) in
            let last : x ≡ length xs = sym (get_or_at xs x [] 0 (length xs) refl) ∙ up (length xs) (omega arith) in
            let next : x + 1 ≡ length (xs ++ (x ∷ [])) = omega arith in
            here.1 (so.1 before ∙ ap total (sym last)) ∙ ap total next,
      )

  pub fold_can : ((k : ℕ) (a : B) → k < n → a ≡ total k → Takes g f (a, (k, tt))) → CallableInFold nat_range_steps g s f init
  fold_can may =
      serves_by (FoldTurn g) So keeps nat_range_steps (λ p x. Takes g p.0 (p.1, (x, tt))) s (f, init) (refl, λ up. first)
      (λ xs t q x u yields step so.
      let next = YieldsList-turn road xs t yields (Some x) u x refl step in
      let long = length-range_with_len 0 n in
      let up = counts_up xs (length xs) n (omega arith) (YieldsList-so_far road xs t yields) in
      let at = get_or-range_with_len 0 n (length xs) x (omega arith) in
      let here : x ≡ length xs = omega arith in
      subst (λ e. Takes g e (q.1, (x, tt))) (sym so.0) (may x q.1 (omega arith) (so.1 up ∙ ap total (sym here))))

  pub fold_is : {r : B} → FoldsItems nat_range_steps g s f init r → r ≡ total n
  fold_is {r} ran =
      let so = chained_keeps (FoldTurn g) So keeps ran.0 (f, init) (ran.1, r) (refl, λ up. first) ran.3 in
      let drained = ran.2.1 in
      let end = YieldsList-end road ran.0 drained.0 drained.1 None ran.2.0 refl drained.2 in
      let long = length-range_with_len 0 n in
      let all : length ran.0 ≡ n = omega arith in
      so.1 (counts_up ran.0 n n (omega arith) (end.0 ∙ sym (take_all n (range_with_len 0 n) (omega arith)))) ∙ ap total all
