-- A refused call changes nothing, an accepted one has its effect; and what one step does to a figure, said for a whole list. Assumes nothing.
use Prim.Native.Nat.{ℕ, ◌+◌}
use mathlib.Core.Path.{◌≡◌, refl, ap}
use mathlib.Core.Bool.{Bool, true, false}
use mathlib.Core.List.{List, [], ◌∷◌, ◌++◌}
use native.Mathlib.Omega.{arith}
use Rattle.tariff.specs.Sum.{when_true}
use Rattle.tariff.proofs.Sums.{when_is_true, when_is_false}
use Rattle.ledger.specs.Opening.{Opening}
use Rattle.ledger.specs.Ledger.{Ledger, empty_ledger}
use Rattle.ledger.specs.Call.{Call}
use Rattle.ledger.specs.Effects.{effect}
use Rattle.ledger.specs.Season.{accepted, step, after_from, after}
use Rattle.ledger.specs.Totals.{sum_accepted}

pub step_refused : (o : Opening) (L : Ledger) (c : Call) → accepted o L c ≡ false → step o L c ≡ L
unfolding step
step_refused o L c e = rw e

pub step_accepted : (o : Opening) (L : Ledger) (c : Call) → accepted o L c ≡ true → step o L c ≡ effect o L c
unfolding step
step_accepted o L c e = rw e

-- a property of ledgers that an accepted call keeps, every call keeps ..
pub step_keeps : (P : Ledger → Type 0) (o : Opening) (L : Ledger) (c : Call) → P L → (accepted o L c ≡ true → P (effect o L c)) → P (step o L c)
step_keeps P o L c p k = go (accepted o L c) refl
  where
    go : (t : Bool) → accepted o L c ≡ t → P (step o L c)
    go true e = rw (step_accepted o L c e) (k e)
    go false e = rw (step_refused o L c e) p

-- .. and every list of calls
pub all_keep : (P : Ledger → Type 0) (o : Opening) → ((L : Ledger) (c : Call) → P L → P (step o L c)) → (L : Ledger) → P L → (cs : List Call) → P (after_from o L cs)
unfolding after_from
all_keep P o k L p [] = p
all_keep P o k L p (c ∷ cs) = all_keep P o k (step o L c) (k L c p) cs

pub after_keeps : (P : Ledger → Type 0) (o : Opening) → ((L : Ledger) (c : Call) → P L → P (step o L c)) → P empty_ledger → (cs : List Call) → P (after o cs)
unfolding after
after_keeps P o k p cs = all_keep P o k empty_ledger p cs

-- one call more is one step more
from_more : (o : Opening) (L : Ledger) (cs : List Call) (c : Call) → after_from o L (cs ++ (c ∷ [])) ≡ step o (after_from o L cs) c
unfolding after_from
from_more o L [] c = refl
from_more o L (d ∷ cs) c = from_more o (step o L d) cs c

pub after_more : (o : Opening) (cs : List Call) (c : Call) → after o (cs ++ (c ∷ [])) ≡ step o (after o cs) c
unfolding after
after_more o cs c = from_more o empty_ledger cs c

module _ (figure : Ledger → ℕ) (amount : Ledger → Call → ℕ) (o : Opening) where
  -- an accepted call adds its amount to the figure
  abbrev pub Adds : Type 0
  Adds = (L : Ledger) (c : Call) → accepted o L c ≡ true → figure (effect o L c) ≡ figure L + amount L c

  step_adds : Adds → (L : Ledger) (c : Call) → figure (step o L c) ≡ figure L + when_true (accepted o L c) (amount L c)
  step_adds adds L c = go (accepted o L c) refl
    where
      go : (t : Bool) → accepted o L c ≡ t → figure (step o L c) ≡ figure L + when_true (accepted o L c) (amount L c)
      go true e =
          let a = ap figure (step_accepted o L c e) in
          let b = adds L c e in
          let n = when_is_true (amount L c) e in
          omega arith
      go false e =
          let a = ap figure (step_refused o L c e) in
          let n = when_is_false (amount L c) e in
          omega arith

  -- so after a list the figure has grown by the amounts of its accepted calls
  pub list_adds : Adds → (L : Ledger) (cs : List Call) → figure (after_from o L cs) ≡ figure L + sum_accepted amount o L cs
  unfolding after_from sum_accepted
  list_adds adds L [] = omega arith
  list_adds adds L (c ∷ cs) =
      let first = step_adds adds L c in
      let rest = list_adds adds (step o L c) cs in
      omega arith
