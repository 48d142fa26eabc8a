-- Bounds for code: in every ledger that calls lead to from a legal opening, each figure, and each sum or product that a method forms, fits 64 bits.
-- Assumes nothing.
use Prim.Native.Nat.{ℕ, suc, ◌*◌, ◌^◌, ◌≤◌, ◌<◌}
use mathlib.Core.Path.{◌≡◌, refl}
use mathlib.Core.Bool.{true}
use mathlib.Core.List.{List}
use native.Mathlib.Nat.{le_trans, mul-le-mul_right, mul-le-mul, lt_of_le_of_lt}
use native.Mathlib.Bridge.{le_by_compare, IsLe}
use native.Mathlib.Omega.{arith}
use lib.Dec.{eqb}
use borrow.Author.Tests.{leb-true, eq-eqb}
use Rattle.tariff.specs.Sum.{when_true, sum_to}
use Rattle.tariff.proofs.Sums.{when_is_true, sum_le, sum_bound, term_le_sum}
use Rattle.tariff.proofs.Tests.{and_both}
use Rattle.ledger.specs.Opening.{Opening, counts_fit, legal, has_base, path_base}
use Rattle.ledger.specs.Ledger.{Ledger}
use Rattle.ledger.specs.Call.{Call}
use Rattle.ledger.specs.Limits.{sum_at_base, nominated_at}
use Rattle.tariff.specs.Ranges.{max_kw}
use Rattle.ledger.specs.Season.{after}
use Rattle.ledger.proofs.LegalFacts.{legal_facts}
use Rattle.ledger.proofs.Conserved.{carried_sum, awarded_sum, load_sum}
use Rattle.ledger.proofs.Once.{once_bound}
use Rattle.ledger.proofs.TierBounds.{Bounded, bounded, nominated_sum, awards_sum}
use Rattle.ledger.proofs.EvidenceBounds.{EvidenceInRange, evidence_in_range}

-- the most kW that eight holders post in one place
abbrev pub max_together : ℕ
max_together = 8 * max_kw

-- a legal opening has at most 8 holders and 16 paths
pub legal_counts : (o : Opening) → legal o ≡ true → (o.holders ≤ 8) × (o.sources ≤ 16) × (o.sinks ≤ 16) × (o.paths ≤ 16)
unfolding counts_fit
legal_counts o e =
    let three = and_both _ _ (legal_facts o e).counts_fit in
    let two = and_both _ _ three.0 in
    let one = and_both _ _ two.0 in
    (leb-true _ _ one.0, leb-true _ _ one.1, leb-true _ _ two.1, leb-true _ _ three.1)

together : (n s : ℕ) → n ≤ 8 → s ≤ n * max_kw → s ≤ max_together
together n s few l = le_trans l (mul-le-mul_right max_kw few)

-- awards on a path are among the nominations at its base
awards_at_base : (o : Opening) (L : Ledger) → Bounded o L → (h p t : ℕ) → p < o.paths → L.tiers.awards h p t ≤ nominated_at o L h (path_base o p) t
unfolding nominated_at sum_at_base has_base
awards_at_base o L k h p t l =
    let here = when_is_true (L.tiers.nominated h p t) (eq-eqb (path_base o p) (path_base o p) refl) in
    let part = term_le_sum (λ q. when_true (eqb (path_base o q) (path_base o p)) (L.tiers.nominated h q t)) o.paths p l in
    let awards = k.sound.awards_within h p t in
    omega arith

-- the figures of a ledger, summed over its holders
pub record Fits (o : Opening) (L : Ledger) : Type 0 where
  pub loads_fit : (s t : ℕ) → load_sum o s t L ≤ max_together
  pub carried_fit : (p m : ℕ) → carried_sum o p m L ≤ max_together
  pub allocated_fit : (p : ℕ) → sum_to o.holders (λ h. L.priors.allocated h p) ≤ max_together
  pub remaining_fit : (p : ℕ) → sum_to o.holders (λ h. L.priors.remaining h p) ≤ max_together
  pub nominated_fit : (b t : ℕ) → nominated_sum o L b t ≤ max_together
  pub awards_fit : (p t : ℕ) → p < o.paths → sum_to o.holders (λ h. L.tiers.awards h p t) ≤ max_together
  pub awarded_fit : (p m : ℕ) → p < o.paths → awarded_sum o p m L ≤ 10 * max_together
  pub evidence_fits : EvidenceInRange L.evidence

pub figures_fit : (o : Opening) → legal o ≡ true → (cs : List Call) → Fits o (after o cs)
unfolding load_sum carried_sum nominated_sum awards_sum
figures_fit o ok cs =
    let L = after o cs in
    let n = o.holders in
    let few = (legal_counts o ok).0 in
    let k = bounded o (legal_facts o ok).settings cs in
    let one = k.once in
    let awards_all = awards-fit few k in
    record {
      loads_fit = λ s t. together n _ few (once_bound n (λ h. L.loads.kw h s t) (λ h. L.loads.posted h s t) (one.load_column s t));
      carried_fit = λ p m. together n _ few (once_bound n (λ h. L.rights.carried h p m) (λ h. L.rights.posted h p) (one.carried_column p m));
      allocated_fit = λ p. together n _ few (once_bound n (λ h. L.priors.allocated h p) (λ h. L.priors.posted h p) (one.allocated_column p));
      remaining_fit = λ p. together n _ few (once_bound n (λ h. L.priors.remaining h p) (λ h. L.priors.posted h p) (one.remaining_column p));
      nominated_fit = λ b t. together n _ few (k.nominations b t);
      awards_fit = awards_all;
      awarded_fit = λ p m l. le_trans (k.awards p m) (sum_bound {f = λ t. sum_to n (λ h. L.tiers.awards h p t)} max_together 10 (λ t i. awards_all p t l));
      evidence_fits = evidence_in_range o cs;
    }
  where
    awards-fit : o.holders ≤ 8 → Bounded o (after o cs) → (p t : ℕ) → p < o.paths → sum_to o.holders (λ h. (after o cs).tiers.awards h p t) ≤ max_together
    awards-fit few k p t l = le_trans (sum_le o.holders (λ h i. awards_at_base o (after o cs) k h p t l)) (together o.holders _ few (k.nominations (path_base o p) t))

-- one holder's figure is at most the sum
pub one_fits : (v : ℕ → ℕ) (n most h : ℕ) → h < n → sum_to n v ≤ most → v h ≤ most
one_fits v n most h l fits = le_trans (term_le_sum v n h l) fits

-- the product that a share is made of: the largest record, times the largest load
pub share_product_fits : (v m : ℕ) → v ≤ 10 * max_together → m ≤ max_together → v * m < 2 ^ 64
unfolding IsLe
share_product_fits v m a b = lt_of_le_of_lt (mul-le-mul a b) (le_by_compare (suc (10 * max_together * max_together)) (2 ^ 64) tt)

-- sums over a base or a source: at most 16 paths of at most one holder's figure each
pub paths_fit : (f : ℕ → ℕ) (n most : ℕ) → n ≤ 16 → ((p : ℕ) → p < n → f p ≤ most) → sum_to n f ≤ 16 * most
paths_fit f n most few each = le_trans (sum_bound most n each) (mul-le-mul_right most few)
