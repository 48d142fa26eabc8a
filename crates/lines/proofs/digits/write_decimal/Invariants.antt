-- `digits::write_decimal` meets its contract. The loop's invariant: the digits of what is left, and then those found, are the number's, and there is a place for each that is left. Assumes nothing.
use Prim.Native.Nat.{◌+◌, ◌^◌, ◌≤◌, ◌<◌}
use mathlib.Core.Path.{◌≡◌}
use mathlib.Core.List.{◌++◌}
use lib.ListN.{length, drop}
use Rattle.lines.specs.Text.{digits_of, decimal}
use Rattle.lines.proofs.digits.write_decimal.Given as goal

abbrev pub invariant-loop-rest : goal.invariant-loop-rest
invariant-loop-rest l = (l.first ≤ 19) × (length l.digits ≡ 20) × (l.rest < 10 ^ (l.first + 1)) × (digits_of (l.first + 1) l.rest ++ drop (l.first + 1) l.digits ≡ decimal l.v)

abbrev pub decreases-loop-rest : goal.decreases-loop-rest
decreases-loop-rest l = l.first
