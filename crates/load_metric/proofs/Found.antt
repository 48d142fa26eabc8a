-- The metric, found on the way down from the highest kW. Each step comes to a block's kW that is within the exceedance, with more hours at or above it than
-- the step before. The metric is the first that has more hours at or above it than may be exceeded, or all of them. Assumes nothing.
use Prim.Native.Nat.{ℕ, suc, ◌-◌, ◌≤◌, ◌<◌, min}
use mathlib.Core.Path.{◌≡◌, sym, ap, ◌∙◌}
use mathlib.Core.List.{List}
use native.Mathlib.Nat.{le_refl}
use native.Mathlib.Omega.{arith}
use lib.ListN.{length}
use Rattle.std.proofs.lemmas.List.{length-map}
use borrow.Author.Tests.{le-leb, lt-leb}
use Rattle.load_metric.specs.declared.load.Level.{Level}
use Rattle.load_metric.specs.declared.block.Block.{Block}
use Rattle.load_metric.specs.Load.{present_hours, hours_above, within_exceedance, smallest_within}
use Rattle.load_metric.specs.Levels.{highest_kw, highest_below, hours_at_least, level_below, kws_of, EachHasHours}
use Rattle.load_metric.proofs.Lowest.{Among, smallest_passing, among_highest}
use Rattle.load_metric.proofs.Levels.{from_within_above, from_within_present, from_more, none_above_highest, above_next, next_among}

-- what a step down is, as the code has it
pub level_kw : {below : Level} (kw : ℕ) (bs : List Block) → below ≡ level_below kw bs → below.kw ≡ highest_below kw bs
unfolding level_below
level_kw kw bs e = ap (λ l. l.kw) e

pub level_above : {below : Level} (kw : ℕ) (bs : List Block) → below ≡ level_below kw bs → below.above ≡ hours_at_least kw bs
unfolding level_below
level_above kw bs e = ap (λ l. l.above) e

-- where so many hours may be exceeded
module _ (most : ℕ) where
  -- where the way down stands: at a block's kW that is exceeded in no more
  pub record Standing (bs : List Block) (kw : ℕ) : Type 0 where
    pub among : Among kw (kws_of bs)
    pub allowed : hours_above kw bs ≤ most

  -- a step down may leave no more above, and not all hours, since below the lowest kW there is none
  abbrev pub most_above : List Block → ℕ
  most_above bs = min most (present_hours bs - 1)

  module _ (bs : List Block) (each_has_hours : EachHasHours bs) where
    -- some block, of an hour or more, is at this kW
    from_some : (kw : ℕ) → Among kw (kws_of bs) → 0 < hours_at_least kw bs
    from_some kw m = let h = from_more (suc kw) kw bs (le_refl (suc kw)) m each_has_hours in omega arith

    -- hours at or above a kW that a step may leave above leave others
    some_below : (kw : ℕ) → Standing bs kw → hours_at_least kw bs ≤ most_above bs → hours_at_least kw bs < present_hours bs
    some_below kw s h = let some = from_some kw s.among in omega arith

    -- a step down: the next kW is exceeded in few enough hours too, and has more hours at or above it
    pub step_down : (kw : ℕ) → Standing bs kw → hours_at_least kw bs ≤ most_above bs → Standing bs (highest_below kw bs)
    step_down kw s h =
        let next = next_among kw bs (some_below kw s h) in
        let fewer = above_next kw (highest_below kw bs) bs (le_refl (highest_below kw bs)) in
        record { among = next.1; allowed = omega arith }

    pub step_adds : (kw : ℕ) → Standing bs kw → hours_at_least kw bs ≤ most_above bs → hours_at_least kw bs < hours_at_least (highest_below kw bs) bs
    step_adds kw s h =
        let next = next_among kw bs (some_below kw s h) in
        from_more kw (highest_below kw bs) bs next.0 next.1 each_has_hours

    -- where a step down would leave more above, every lower kW of a block is exceeded too often
    lower-exceeded : (kw x : ℕ) → most_above bs < hours_at_least kw bs → Among x (kws_of bs) → x < kw → most < hours_above x bs
    lower-exceeded kw x h m l =
        let above = from_within_above kw x bs l in
        let more = from_more kw x bs l m each_has_hours in
        let within = from_within_present x bs in
        omega arith

    pub metric_found : (kw : ℕ) → Standing bs kw → most_above bs < hours_at_least kw bs → smallest_within most bs ≡ kw
    unfolding smallest_within within_exceedance
    metric_found kw s h =
        smallest_passing (within_exceedance most bs) kw (kws_of bs) s.among (le-leb (hours_above kw bs) most s.allowed)
        (λ x m l. lt-leb (hours_above x bs) most (lower-exceeded kw x h m l))

  -- the way down starts at the highest kW, which no hour exceeds
  pub stand_highest : (bs : List Block) → 0 < length bs → Standing bs (highest_kw (kws_of bs))
  stand_highest bs some =
      let none = none_above_highest (highest_kw (kws_of bs)) bs (le_refl (highest_kw (kws_of bs))) in
      record { among = among_highest (kws_of bs) (rw (length-map bs (λ b. b.kw)) some); allowed = omega arith }

  -- the limit of the way down, as the code finds it
  pub limit_is : (bs : List Block) {present less limit : ℕ} → present_hours bs ≡ present → less ≡ present - 1 → limit ≡ min most less → limit ≡ most_above bs
  limit_is bs covered e is = is ∙ ap (min most) (e ∙ ap (λ p. p - 1) (sym covered))

  -- one pass of the loop: at a kW, with the step down from there, below a limit
  module _ (bs : List Block) (each_has_hours : EachHasHours bs) (kw : ℕ) {below : Level} {limit : ℕ} (stands : Standing bs kw) (is : below ≡ level_below kw bs) (at : limit ≡ most_above bs) where
    allowed : below.above ≤ limit → hours_at_least kw bs ≤ most_above bs
    allowed h = let above = level_above kw bs is in omega arith

    pub goes_down : below.above ≤ limit → Standing bs below.kw
    goes_down h = rw (level_kw kw bs is) (step_down bs each_has_hours kw stands (allowed h))

    pub goes_up : {next : Level} → below.above ≤ limit → next ≡ level_below below.kw bs → below.above < next.above
    goes_up h then_is =
        let adds = step_adds bs each_has_hours kw stands (allowed h) in
        let from = ap (λ v. hours_at_least v bs) (level_kw kw bs is) in
        let above = level_above kw bs is in
        let more = level_above below.kw bs then_is in
        omega arith

    pub ends : limit < below.above → kw ≡ smallest_within most bs
    ends h = let above = level_above kw bs is in sym (metric_found bs each_has_hours kw stands (omega arith))
