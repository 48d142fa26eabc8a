-- A book is only what opening or a call returned (01, The book).
use Rattle.slots.specs.Steps as arrays
use Rattle.book.specs.declared.book.Book.{Book}

-- its arrays are those of a legal opening and a list of calls: the invariant of `Book`, also for those who have the arrays without a book
abbrev pub Reachable : Book → Type 0
Reachable b = arrays.Reachable b.opening b.figures b.posted b.evidence
