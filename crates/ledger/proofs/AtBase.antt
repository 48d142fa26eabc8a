-- Sums over the paths of a base, when kw is added on one path in one tier. Assumes nothing.
use Prim.Native.Nat.{ℕ, ◌+◌, ◌<◌}
use mathlib.Core.Path.{◌≡◌, refl, ap, ◌∙◌}
use mathlib.Core.Bool.{Bool, true, false, ◌&&◌}
use lib.Dec.{eqb}
use borrow.Author.Tests.{eqb-true, eq-eqb}
use Rattle.tariff.specs.Sum.{when_true}
use Rattle.tariff.proofs.Sums.{when_add, sum_ext}
use Rattle.ledger.specs.Opening.{Opening, has_base}
use Rattle.ledger.specs.Limits.{sum_at_base}
use Rattle.ledger.specs.Effects.{same3, plus_at3}
use Rattle.ledger.proofs.Columns.{column_plus}
use Rattle.ledger.proofs.TiersSound.{other_tier}

-- one count within another
when_both : (g t : Bool) (kw : ℕ) → when_true g (when_true t kw) ≡ when_true (t && g) kw
unfolding when_true
when_both true true kw = refl
when_both true false kw = refl
when_both false true kw = refl
when_both false false kw = refl

same_test : (a e here there : Bool) → (e ≡ true → here ≡ there) → (a && e && true && here) ≡ (e && (a && there))
same_test true true here there k = k refl
same_test true false here there k = refl
same_test false true here there k = refl
same_test false false here there k = refl

-- an addition on path q, as the base of a path p sees it
at_path : (o : Opening) (b x q k kw h p : ℕ) (f : ℕ → ℕ → ℕ → ℕ) → when_true (has_base o b p) (plus_at3 x q k kw f h p k) ≡ when_true (has_base o b p) (f h p k) + when_true (eqb p q && (eqb h x && has_base o b q)) kw
unfolding plus_at3 same3
at_path o b x q k kw h p f =
    when_add (has_base o b p) (f h p k) (when_true (eqb h x && eqb p q && eqb k k) kw)
    ∙ ap (λ n. when_true (has_base o b p) (f h p k) + n)
    (when_both (has_base o b p) (eqb h x && eqb p q && eqb k k) kw
    ∙ ap (λ t. when_true (eqb h x && eqb p q && t && has_base o b p) kw) (eq-eqb k k refl)
    ∙ ap (λ t. when_true t kw) (same_test (eqb h x) (eqb p q) (has_base o b p) (has_base o b q) (λ e. ap (has_base o b) (eqb-true p q e))))

-- kw more on path q in tier k adds to the sums of its base in that tier ..
pub base_plus : (o : Opening) (b x q k kw h : ℕ) (f : ℕ → ℕ → ℕ → ℕ) → q < o.paths → sum_at_base o b (λ p. plus_at3 x q k kw f h p k) ≡ sum_at_base o b (λ p. f h p k) + when_true (eqb h x && has_base o b q) kw
unfolding sum_at_base
base_plus o b x q k kw h f l =
    sum_ext {f = λ p. when_true (has_base o b p) (plus_at3 x q k kw f h p k)} {g = λ p. when_true (has_base o b p) (f h p k) + when_true (eqb p q && (eqb h x && has_base o b q)) kw} o.paths (λ p i. at_path o b x q k kw h p f)
    ∙ column_plus (λ p. when_true (has_base o b p) (f h p k)) o.paths q (eqb h x && has_base o b q) kw l

-- .. and leaves every other tier's
pub base_other : (o : Opening) (b x q k kw h t : ℕ) (f : ℕ → ℕ → ℕ → ℕ) → (t ≡ k → ⊥) → sum_at_base o b (λ p. plus_at3 x q k kw f h p t) ≡ sum_at_base o b (λ p. f h p t)
unfolding sum_at_base
base_other o b x q k kw h t f ne =
    sum_ext {f = λ p. when_true (has_base o b p) (plus_at3 x q k kw f h p t)} {g = λ p. when_true (has_base o b p) (f h p t)} o.paths (λ p i. ap (when_true (has_base o b p)) (other_tier x q k kw f h p t ne))
