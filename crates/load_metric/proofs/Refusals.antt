-- What a block list is refused for, and what it gives, from what a pass over it gives. Assumes nothing.
use Prim.Native.Nat.{ℕ, ◌*◌, ◌-◌, ◌≤◌, ◌<◌}
use mathlib.Core.Path.{◌≡◌, refl, sym, ap, ◌∙◌, subst}
use mathlib.Core.Bool.{Bool, true, false, cond, ◌||◌}
use mathlib.Core.List.{List, [], ◌∷◌}
use native.Mathlib.Nat.{div-lt_iff_lt-mul, le-div_iff_mul-le}
use native.Mathlib.Omega.{arith}
use lib.ListN.{length}
use borrow.Author.Tests.{lt-ltb, le-ltb}
use Rattle.tariff.specs.declared.settings.Fraction.{Fraction}
use Rattle.tariff.specs.declared.settings.Settings.{Settings}
use Rattle.tariff.specs.Settings.{part_of, settings_legal}
use Rattle.std.specs.Prelude.{Some, None, Result, Ok, Err}
use Rattle.load_metric.specs.declared.block.Block.{Block}
use Rattle.load_metric.specs.declared.load.BlockError.{BlockError}
use Rattle.load_metric.specs.declared.load.BlockError.TheVariants.{Broken, Missing}
use Rattle.load_metric.specs.Load.{in_order, is_empty, blocks_broken, present_hours, missing_hours, too_many_missing, exceedance_hours, smallest_within, metric, load_posted}
use Rattle.load_metric.specs.Metering.{unless_refused, metric_or_cause, load_or_cause, metering_by, block_refusal}
use Rattle.load_metric.specs.Levels.{ordered_hours, MetricInputs}
use Rattle.tariff.proofs.Fractions.{fraction_facts, each_legal}
use Rattle.load_metric.proofs.Ordered.{order_within, each_has_hours_lem}

or_right_true : (a : Bool) {b : Bool} → b ≡ true → (a || b) ≡ true
or_right_true true e = refl
or_right_true false e = e

-- whether there is a block
empty_blocks : (bs : List Block) → length bs ≡ 0 → is_empty bs ≡ true
unfolding is_empty
empty_blocks [] e = refl
empty_blocks (b ∷ bs) e = absurd (omega arith)

some_blocks : (bs : List Block) → 0 < length bs → is_empty bs ≡ false
unfolding is_empty
some_blocks [] p = absurd (omega arith)
some_blocks (b ∷ bs) p = refl

out_of_order : (n : ℕ) (bs : List Block) → in_order n 0 bs ≡ false → blocks_broken n bs ≡ true
unfolding blocks_broken
out_of_order n bs e = or_right_true (is_empty bs) (rw e)

-- missing hours are compared with the rounded part of n, where the rule compares two products
module _ (settings : Settings) (legal : settings_legal settings ≡ true) (n present : ℕ) (bs : List Block) (e : present_hours bs ≡ present) where
  abbrev share : Fraction
  share = settings.missing

  some : 0 < share.denominator
  some = (fraction_facts share (each_legal settings legal).missing).some

  too_many : part_of share n < n - present → too_many_missing settings n bs ≡ true
  unfolding too_many_missing missing_hours part_of
  too_many l =
      lt-ltb (share.numerator * n) ((n - present_hours bs) * share.denominator)
      (subst (λ p. share.numerator * n < (n - p) * share.denominator) (sym e) ((div-lt_iff_lt-mul some).0 l))

  few-enough : n - present ≤ part_of share n → too_many_missing settings n bs ≡ false
  unfolding too_many_missing missing_hours part_of
  few-enough l =
      le-ltb (share.numerator * n) ((n - present_hours bs) * share.denominator)
      (subst (λ p. (n - p) * share.denominator ≤ share.numerator * n) (sym e) ((le-div_iff_mul-le some).0 l))

-- a pass that finds hours finds the blocks in order; one that finds none does not
hours_in_order : (n present : ℕ) (bs : List Block) → Some present ≡ ordered_hours n bs → (in_order n 0 bs ≡ true) × (present_hours bs ≡ present)
unfolding ordered_hours
hours_in_order n present bs e = go (in_order n 0 bs) refl e
  where
    go : (t : Bool) → in_order n 0 bs ≡ t → Some present ≡ cond t (Some (present_hours bs)) None
        → (in_order n 0 bs ≡ true) × (present_hours bs ≡ present)
    go true p q = (p, cc)
    go false p q = absurd (let z : ◌≡◌ {A = ℕ} 0 1 = cc in omega arith)

broken_order : (n : ℕ) (bs : List Block) → None ≡ ordered_hours n bs → in_order n 0 bs ≡ false
unfolding ordered_hours
broken_order n bs e = go (in_order n 0 bs) refl e
  where
    go : (t : Bool) → in_order n 0 bs ≡ t → None ≡ cond t (Some (present_hours bs)) None → in_order n 0 bs ≡ false
    go true p q = absurd (let z : ◌≡◌ {A = ℕ} 0 1 = cc in omega arith)
    go false p q = p

module _ (settings : Settings) (bs : List Block) (n : ℕ) where
  refused-broken : blocks_broken n bs ≡ true → Err Broken ≡ metric_or_cause settings bs n
  unfolding metric_or_cause unless_refused metering_by block_refusal
  refused-broken e = rw e

  -- no block
  pub broken_empty : length bs ≡ 0 → Err Broken ≡ metric_or_cause settings bs n
  unfolding blocks_broken
  broken_empty e = refused-broken (rw (empty_blocks bs e))

  -- blocks out of order
  pub broken_blocks_lem : None ≡ ordered_hours n bs → Err Broken ≡ metric_or_cause settings bs n
  broken_blocks_lem e = refused-broken (out_of_order n bs (broken_order n bs e))

-- what is known past the tests of the count and the order
pub record Passed (bs : List Block) (n present : ℕ) : Type 0 where
  pub some : 0 < length bs
  pub ordered : Some present ≡ ordered_hours n bs

module _ {bs : List Block} {n present : ℕ} (w : Passed bs n present) where
  in_order_lem : in_order n 0 bs ≡ true
  in_order_lem = (hours_in_order n present bs w.ordered).0

  covered : present_hours bs ≡ present
  covered = (hours_in_order n present bs w.ordered).1

  unbroken : blocks_broken n bs ≡ false
  unfolding blocks_broken
  unbroken = rw (some_blocks bs w.some, in_order_lem)

  pub present_within : present ≤ n
  present_within = let l = order_within n 0 bs (omega arith) in_order_lem in let e = covered in omega arith

  -- the hours and the kW from which the metric is found
  pub covering : MetricInputs bs present
  covering = record { some = w.some; covered = covered; each_has_hours = each_has_hours_lem n 0 bs in_order_lem }

  module _ (settings : Settings) (legal : settings_legal settings ≡ true) where
    -- too many hours are missing
    pub missing_hours_lem : part_of settings.missing n < n - present → Err Missing ≡ metric_or_cause settings bs n
    unfolding metric_or_cause unless_refused metering_by block_refusal
    missing_hours_lem l = let many = too_many settings legal n present bs covered l in rw (unbroken, many)

    -- no refusal: the kW found within the hours that may be exceeded is the metric
    found-metric : {kw most : ℕ} → most ≡ part_of settings.exceedance present → kw ≡ smallest_within most bs → kw ≡ metric settings bs
    unfolding metric exceedance_hours
    found-metric m found = found ∙ ap (λ k. smallest_within k bs) (m ∙ ap (part_of settings.exceedance) (sym covering.covered))

    pub metered : {kw most : ℕ} → n - present ≤ part_of settings.missing n → most ≡ part_of settings.exceedance present → kw ≡ smallest_within most bs → Ok kw ≡ metric_or_cause settings bs n
    unfolding metric_or_cause unless_refused metering_by block_refusal
    metered l m found =
        let few = few-enough settings legal n present bs covered l in
        rw (unbroken, few, found-metric m found)

-- contract load off a kW; a refusal stays
abbrev pub after_contract : ℕ → Result ℕ BlockError → Result ℕ BlockError
after_contract contract (Err e) = Err e
after_contract contract (Ok kw) = Ok (kw - contract)

posted_after_contract : (settings : Settings) (bs : List Block) (n contract : ℕ) → after_contract contract (metric_or_cause settings bs n) ≡ load_or_cause settings bs n contract
unfolding metric_or_cause load_or_cause unless_refused metering_by block_refusal load_posted
posted_after_contract settings bs n contract = go (blocks_broken n bs) (too_many_missing settings n bs)
  where
    kw : ℕ
    kw = metric settings bs

    go : (broken missing : Bool) → after_contract contract (metering_by (cond broken 6 (cond missing 7 0)) kw) ≡ metering_by (cond broken 6 (cond missing 7 0)) (kw - contract)
    go true missing = refl
    go false true = refl
    go false false = refl

-- the load posted, from what the metric's function returned
pub posted_from : (settings : Settings) (bs : List Block) (n contract : ℕ) {given m : Result ℕ BlockError} → given ≡ metric_or_cause settings bs n → given ≡ m
    → after_contract contract m ≡ load_or_cause settings bs n contract
posted_from settings bs n contract e same = ap (after_contract contract) (sym same ∙ e) ∙ posted_after_contract settings bs n contract
