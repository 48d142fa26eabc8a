-- A test for one kind is a test on the number that names it. Assumes nothing.
use Prim.Native.Nat.{ℕ}
use mathlib.Core.Path.{◌≡◌}
use lib.Dec.{eqb}
use Rattle.std.proofs.Common.{arith}
use Rattle.std.proofs.lemmas.Bool.Decides.{nat_tests}
use Rattle.std.specs.Prelude.{Some}
use Rattle.std.specs.Option.{option_eq}
use Rattle.ledger.specs.Opening.{lse, obaalse, default_lap, sub_lap, scheduling_point}
use Rattle.records.specs.declared.kinds.HolderKind.TheVariants.{Lse, Obaalse}
use Rattle.records.specs.declared.kinds.SinkKind.TheVariants.{DefaultLap, SubLap, SchedulingPoint}
use Rattle.records.specs.contracts.kinds.HolderKindPartialEq.TheImpl.{eq-value as same_holder}
use Rattle.records.specs.contracts.kinds.SinkKindPartialEq.TheImpl.{eq-value as same_sink}
use Rattle.records.specs.Kinds.{holder_kind_of, sink_kind_of}

pub names_lse : (n : ℕ) → option_eq same_holder.it (holder_kind_of n) (Some Lse) ≡ eqb n lse
unfolding holder_kind_of
names_lse n = grind (arith, nat_tests)

pub names_obaalse : (n : ℕ) → option_eq same_holder.it (holder_kind_of n) (Some Obaalse) ≡ eqb n obaalse
unfolding holder_kind_of
names_obaalse n = grind (arith, nat_tests)

pub names_default_lap : (n : ℕ) → option_eq same_sink.it (sink_kind_of n) (Some DefaultLap) ≡ eqb n default_lap
unfolding sink_kind_of
names_default_lap n = grind (arith, nat_tests)

pub names_sub_lap : (n : ℕ) → option_eq same_sink.it (sink_kind_of n) (Some SubLap) ≡ eqb n sub_lap
unfolding sink_kind_of
names_sub_lap n = grind (arith, nat_tests)

pub names_scheduling_point : (n : ℕ) → option_eq same_sink.it (sink_kind_of n) (Some SchedulingPoint) ≡ eqb n scheduling_point
unfolding sink_kind_of
names_scheduling_point n = grind (arith, nat_tests)
