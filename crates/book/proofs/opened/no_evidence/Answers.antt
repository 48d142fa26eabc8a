-- `book::opened::no_evidence` meets its contract: every entry is empty. Assumes nothing.
use Rattle.book.proofs.EmptyBook.{empty_evidence}
use Rattle.book.proofs.opened.no_evidence.Goals as goal

pub returns : goal.returns
returns c = let e = c.default.ensures in empty_evidence c.default.result e.0 e.1.0 e.1.1.0 e.1.1.1
