-- The kinds that numbers name (01, The book).
use Rattle.std.specs.Prelude.{ℕ, cond, eqb, Option, None, Some}
use Rattle.ledger.specs.Opening.{lse, obaalse, default_lap, sub_lap, scheduling_point}
use Rattle.records.specs.declared.kinds.HolderKind.{HolderKind}
use Rattle.records.specs.declared.kinds.HolderKind.TheVariants.{Lse, Obaalse}
use Rattle.records.specs.declared.kinds.SinkKind.{SinkKind}
use Rattle.records.specs.declared.kinds.SinkKind.TheVariants.{DefaultLap, SubLap, CustomLapOrNode, SchedulingPoint}

-- the kind of holder that a number names, None where it names none
unfoldable pub holder_kind_of : ℕ → Option HolderKind
holder_kind_of number = cond (eqb number lse) (Some Lse) (cond (eqb number obaalse) (Some Obaalse) None)

-- the same of a sink
unfoldable pub sink_kind_of : ℕ → Option SinkKind
sink_kind_of number =
    cond (eqb number default_lap) (Some DefaultLap)
    (cond (eqb number sub_lap) (Some SubLap)
    (cond (eqb number 3) (Some CustomLapOrNode)
    (cond (eqb number scheduling_point) (Some SchedulingPoint) None)))
