-- What blocks in order tell, block by block: the tests of one block, and the hours that all of them cover. Assumes nothing.
use Prim.Native.Nat.{ℕ, ◌+◌, ◌≤◌}
use mathlib.Core.Path.{◌≡◌, refl}
use mathlib.Core.Bool.{Bool, true, false, ◌&&◌}
use mathlib.Core.List.{List, [], ◌∷◌}
use native.Mathlib.Omega.{arith}
use Rattle.std.specs.Prelude.{Some, None}
use lib.Dec.{leb}
use borrow.Author.Tests.{leb-true, ne_eqb}
use Rattle.load_metric.specs.declared.block.Block.{Block}
use Rattle.tariff.specs.Sum.{sum_over, any_of}
use Rattle.load_metric.specs.Load.{in_order, present_hours}
use Rattle.load_metric.specs.Levels.{ordered_hours, EachHasHours}
use Rattle.tariff.proofs.Tests.{and_both}

module _ (n from : ℕ) (b : Block) (bs : List Block) where
  -- the tests of a block, taken apart
  order-parts : in_order n from (b ∷ bs) ≡ true
      → (from ≤ b.first) × (1 ≤ b.hours) × (b.first + b.hours ≤ n) × (in_order n (b.first + b.hours) bs ≡ true)
  unfolding in_order
  order-parts e =
      let r = and_both (leb from b.first && leb 1 b.hours && leb (b.first + b.hours) n) (in_order n (b.first + b.hours) bs) e in
      let q = and_both (leb from b.first && leb 1 b.hours) (leb (b.first + b.hours) n) r.0 in
      let p = and_both (leb from b.first) (leb 1 b.hours) q.0 in
      (leb-true from b.first p.0, leb-true 1 b.hours p.1, leb-true (b.first + b.hours) n q.1, r.1)

  -- what is tested of a block
  abbrev pub stands : Bool
  stands = leb from b.first && leb 1 b.hours && leb (b.first + b.hours) n

-- blocks in order cover no more hours than there are, and each of them one or more
pub order_within : (n from : ℕ) (bs : List Block) → from ≤ n → in_order n from bs ≡ true → from + present_hours bs ≤ n
unfolding present_hours sum_over
order_within n from [] p e = omega arith
order_within n from (b ∷ bs) p e =
    let o = order-parts n from b bs e in
    let ih = order_within n (b.first + b.hours) bs o.2 o.3 in
    omega arith

pub each_has_hours_lem : (n from : ℕ) (bs : List Block) → in_order n from bs ≡ true → EachHasHours bs
unfolding any_of
each_has_hours_lem n from [] e = refl
each_has_hours_lem n from (b ∷ bs) e =
    let o = order-parts n from b bs e in
    let ih = each_has_hours_lem n (b.first + b.hours) bs o.3 in
    let here = ne_eqb b.hours 0 (λ q. omega (arith, q, o.1)) in
    rw (here, ih)

-- what the pass returns
pub ordered_broken : (n : ℕ) (bs : List Block) → in_order n 0 bs ≡ false → None ≡ ordered_hours n bs
unfolding ordered_hours
ordered_broken n bs e = rw e

pub ordered_present : (n : ℕ) (bs : List Block) (present : ℕ) → in_order n 0 bs ≡ true → present ≡ present_hours bs → Some present ≡ ordered_hours n bs
unfolding ordered_hours
ordered_present n bs present e p = rw (e, p)
