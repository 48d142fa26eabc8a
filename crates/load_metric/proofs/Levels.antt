-- Laws of a step down from one kW of the blocks to the next: the hours at or above a kW, and the next kW below it. Assumes nothing.
use Prim.Native.Nat.{ℕ, ◌+◌, ◌≤◌, ◌<◌, max, zero-le}
use mathlib.Core.Path.{◌≡◌, refl, sym, subst}
use mathlib.Core.Bool.{Bool, true, false}
use mathlib.Core.List.{List, [], ◌∷◌}
use mathlib.Core.Logic.{◌⊎◌, inl, inr}
use native.Mathlib.Nat.{le_refl, add-le-add}
use native.Mathlib.Omega.{arith}
use lib.Dec.{leb, ltb, eqb}
use borrow.Author.Tests.{leb-true, ltb-true, ltb-false, eqb-false, le-leb, lt-leb, lt-ltb, le-ltb}
use Rattle.tariff.specs.Sum.{when_true, sum_over, any_of}
use Rattle.load_metric.specs.declared.block.Block.{Block}
use Rattle.load_metric.specs.Load.{present_hours, hours_above}
use Rattle.load_metric.specs.Levels.{highest_kw, highest_below, hours_at_least, kws_of, EachHasHours}
use Rattle.tariff.proofs.Sums.{when_is_true, when_is_false, when_le}
use Rattle.tariff.proofs.Tests.{or_unmet}
use Rattle.load_metric.proofs.Lowest.{Among, among_max}

-- where one test passes only if another does, it counts no more
when_mono : (s t : Bool) (v : ℕ) → (s ≡ true → t ≡ true) → when_true s v ≤ when_true t v
when_mono true t v h = let e = when_is_true v (h refl) in let l = when_le true v in omega arith
when_mono false t v h = let e = when_is_false {t = false} v refl in omega arith

sum_mono : (f g : Block → ℕ) (bs : List Block) → ((b : Block) → f b ≤ g b) → sum_over bs f ≤ sum_over bs g
unfolding sum_over
sum_mono f g [] h = le_refl 0
sum_mono f g (b ∷ bs) h = add-le-add (h b) (sum_mono f g bs h)

-- hours at or above a kW lie above every lower kW
pub from_within_above : (v w : ℕ) (bs : List Block) → w < v → hours_at_least v bs ≤ hours_above w bs
unfolding hours_at_least hours_above
from_within_above v w bs l =
    sum_mono (λ b. when_true (leb v b.kw) b.hours) (λ b. when_true (ltb w b.kw) b.hours) bs
    (λ b. when_mono (leb v b.kw) (ltb w b.kw) b.hours (λ e. let h = leb-true v b.kw e in lt-ltb w b.kw (omega arith)))

-- the lower the kW, the more hours are at or above it
pub from_lower : (v w : ℕ) (bs : List Block) → w ≤ v → hours_at_least v bs ≤ hours_at_least w bs
unfolding hours_at_least
from_lower v w bs l =
    sum_mono (λ b. when_true (leb v b.kw) b.hours) (λ b. when_true (leb w b.kw) b.hours) bs
    (λ b. when_mono (leb v b.kw) (leb w b.kw) b.hours (λ e. let h = leb-true v b.kw e in le-leb w b.kw (omega arith)))

-- and a lower kW that some block has adds that block's hours, one or more
pub from_more : (v w : ℕ) (bs : List Block) → w < v → Among w (kws_of bs) → EachHasHours bs → hours_at_least v bs < hours_at_least w bs
unfolding hours_at_least sum_over any_of
from_more v w [] l m e = absurd m
from_more v w (b ∷ bs) l (inl q) e =
    let rest = from_lower v w bs (omega arith) in
    let some = eqb-false b.hours 0 (or_unmet (eqb b.hours 0) (any_of bs (λ b. eqb b.hours 0)) e).0 in
    let out = when_is_false b.hours (lt-leb v b.kw (omega (arith, q))) in
    let here = when_is_true b.hours (le-leb w b.kw (omega (arith, q))) in
    omega (arith, some)
from_more v w (b ∷ bs) l (inr m) e =
    let rest = from_more v w bs l m (or_unmet (eqb b.hours 0) (any_of bs (λ b. eqb b.hours 0)) e).1 in
    let here = when_mono (leb v b.kw) (leb w b.kw) b.hours (λ e. let h = leb-true v b.kw e in le-leb w b.kw (omega arith)) in
    omega arith

-- no block is above the highest
pub none_above_highest : (m : ℕ) (bs : List Block) → highest_kw (kws_of bs) ≤ m → hours_above m bs ≡ 0
unfolding hours_above sum_over highest_kw
none_above_highest m [] h = refl
none_above_highest m (b ∷ bs) h =
    let rest = none_above_highest m bs (omega arith) in
    let here = when_is_false b.hours (le-ltb m b.kw (omega arith)) in
    omega arith

-- the hours above the next kW are no more than those at or above this one
pub above_next : (cap m : ℕ) (bs : List Block) → highest_below cap bs ≤ m → hours_above m bs ≤ hours_at_least cap bs
unfolding hours_above hours_at_least sum_over highest_below
above_next cap m [] h = zero-le
above_next cap m (b ∷ bs) h =
    let rest = above_next cap m bs (omega arith) in
    let here = when_mono (ltb m b.kw) (leb cap b.kw) b.hours (not-below (ltb b.kw cap) refl) in
    omega arith
  where
    not-below : (t : Bool) → ltb b.kw cap ≡ t → ltb m b.kw ≡ true → leb cap b.kw ≡ true
    not-below true l e =
        let own = when_is_true b.kw l in
        let above = ltb-true m b.kw e in
        absurd (omega arith)
    not-below false l e = le-leb cap b.kw (ltb-false b.kw cap l)

module _ (cap : ℕ) (b : Block) (bs : List Block) where
  -- a block below the cap may be the next level
  pub pass_below : b.kw < cap → (highest_below cap (b ∷ bs) ≡ max b.kw (highest_below cap bs)) × (hours_at_least cap (b ∷ bs) ≡ hours_at_least cap bs)
  unfolding highest_below hours_at_least sum_over
  pass_below l =
      let kw = when_is_true b.kw (lt-ltb b.kw cap l) in
      let out = when_is_false b.hours (lt-leb cap b.kw l) in
      (omega arith, omega arith)

  -- and any other adds its hours
  pub pass_from : cap ≤ b.kw → (highest_below cap (b ∷ bs) ≡ highest_below cap bs) × (hours_at_least cap (b ∷ bs) ≡ b.hours + hours_at_least cap bs)
  unfolding highest_below hours_at_least sum_over
  pass_from l =
      let kw = when_is_false b.kw (le-ltb b.kw cap l) in
      let hours = when_is_true b.hours (le-leb cap b.kw l) in
      (omega arith, omega arith)

-- some block has the next kW, or none is below this one and all the hours are at or above it
HasNext : ℕ → List Block → Type 0
HasNext cap bs = (highest_below cap bs < cap) × Among (highest_below cap bs) (kws_of bs)

HasNone : ℕ → List Block → Type 0
HasNone cap bs = (highest_below cap bs ≡ 0) × (hours_at_least cap bs ≡ present_hours bs)

next_or_none : (cap : ℕ) (bs : List Block) → HasNext cap bs ⊎ HasNone cap bs
unfolding HasNext HasNone hours_at_least present_hours sum_over highest_below
next_or_none cap [] = inr (refl, refl)
next_or_none cap (b ∷ bs) = go (ltb b.kw cap) refl (next_or_none cap bs)
  where
    kws : List ℕ
    kws = b.kw ∷ kws_of bs

    go : (t : Bool) → ltb b.kw cap ≡ t → HasNext cap bs ⊎ HasNone cap bs → HasNext cap (b ∷ bs) ⊎ HasNone cap (b ∷ bs)
    go true l (inl n) =
        let low = ltb-true b.kw cap l in
        let e = (pass_below cap b bs low).0 in
        inl (omega (arith, n.0, e), subst (λ v. Among v kws) (sym e) (among_max b.kw (highest_below cap bs) kws (inl refl) (inr n.1)))
    go true l (inr n) =
        let low = ltb-true b.kw cap l in
        let e = (pass_below cap b bs low).0 in
        inl (omega (arith, n.0, e), inl (omega (arith, n.0, e)))
    go false l (inl n) =
        let e = (pass_from cap b bs (ltb-false b.kw cap l)).0 in
        inl (omega (arith, n.0, e), inr (subst (λ v. Among v (kws_of bs)) (sym e) n.1))
    go false l (inr n) =
        let e = pass_from cap b bs (ltb-false b.kw cap l) in
        inr (omega (arith, n.0, e.0), omega (arith, n.1, e.1))

-- where hours lie below a kW, some block has the next kW
pub next_among : (cap : ℕ) (bs : List Block) → hours_at_least cap bs < present_hours bs
    → (highest_below cap bs < cap) × Among (highest_below cap bs) (kws_of bs)
unfolding HasNext HasNone
next_among cap bs h = go (next_or_none cap bs)
  where
    go : HasNext cap bs ⊎ HasNone cap bs → HasNext cap bs
    go (inl n) = n
    go (inr n) = absurd (omega (arith, n.1))

pub from_within_present : (cap : ℕ) (bs : List Block) → hours_at_least cap bs ≤ present_hours bs
unfolding hours_at_least present_hours
from_within_present cap bs =
    sum_mono (λ b. when_true (leb cap b.kw) b.hours) (λ b. b.hours) bs (λ b. when_le (leb cap b.kw) b.hours)
