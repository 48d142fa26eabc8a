-- `script::run_groups::run_groups` meets its contract: so far it has answered the groups before what is left. Assumes nothing.
use lib.ListN.{length}
use Rattle.ledger.specs.Ledger.{empty_ledger}
use Rattle.book.specs.Reading.{book_of}
use Rattle.script.proofs.RunGroupLaws.{RunSoFar}
use Rattle.script.proofs.run_groups.run_groups.Given as goal

abbrev pub invariant-loop-rest : goal.invariant-loop-rest
invariant-loop-rest l = RunSoFar l.initial.rest (book_of l.o empty_ledger) l.initial.out l.out l.o l.f l.m l.rest

abbrev pub decreases-loop-rest : goal.decreases-loop-rest
decreases-loop-rest l = length l.rest
