-- `opening::legality::paths_differ` meets its contract: no path passed so far is like an earlier one, and the first pair that is alike ends the search. Assumes nothing.
use mathlib.Core.Bool.{true, false}
use mathlib.Core.Path.{◌≡◌}
use Rattle.tariff.specs.Sum.{all_below, any_below}
use Rattle.ledger.specs.Opening.{paths_alike, path_new}
use Rattle.records.specs.Opening.{opening_in}
use Rattle.opening.proofs.legality.paths_differ.Given as goal

abbrev pub invariant-loop-q : goal.invariant-loop-q
invariant-loop-q l = (l.differ ≡ true) × (any_below l.q (paths_alike (opening_in l.o) l.p) ≡ false)

abbrev pub invariant-pairs : goal.invariant-pairs
invariant-pairs l = (l.differ ≡ true) × (all_below l.p (path_new (opening_in l.o)) ≡ true)
