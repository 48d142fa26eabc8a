-- `verify::verify::store_by_term`: so far the coverage of the terms that the loop has passed is stored. Assumes nothing.
use Rattle.std.proofs.Common.{◌≡◌}
use Rattle.verify.specs.StoredEntry.{stored_below}
use Rattle.verify.proofs.verify.store_by_term.Given as goal

abbrev pub invariant-loop-term : goal.invariant-loop-term
invariant-loop-term l = l.f ≡ stored_below l.term l.initial.f l.h l.s l.from l.entry
