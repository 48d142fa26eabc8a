-- `slots::months::add_in_term` meets its contract: the months that the loop has passed have what enters them, and the next ones have room. Assumes nothing.
use Prim.Native.Nat.{ℕ, suc, ◌+◌}
use mathlib.Core.Path.{◌≡◌}
use Rattle.tariff.specs.Sizes.{last_month}
use Rattle.slots.specs.Months.{HasRoom}
use Rattle.slots.proofs.MonthLaws.{added_before}
use Rattle.slots.proofs.months.add_in_term.Given as goal

abbrev pub invariant-loop-month : goal.invariant-loop-month
invariant-loop-month l = (n : ℕ) × (l.month ≡ suc n) × (l.f ≡ added_before l.initial.f l.h l.p l.from l.term l.kw n) × HasRoom l.f l.h l.p (l.from + n) (l.from + last_month) l.kw
