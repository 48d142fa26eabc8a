-- `transfers::transfers::store_column` meets its contract: the holders passed so far have their entries of the column. Assumes nothing.
use mathlib.Core.Path.{◌≡◌}
use Rattle.transfers.specs.Columns.{column_stored}
use Rattle.transfers.proofs.transfers.store_column.Given as goal

abbrev pub invariant-loop-h : goal.invariant-loop-h
invariant-loop-h l = l.f ≡ column_stored l.initial.f l.p l.slot l.fn.column l.h
