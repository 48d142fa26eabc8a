-- What opening returns, and that it is a reachable book. Assumes nothing.
use mathlib.Core.Path.{◌≡◌, refl, ap, sym, subst}
use mathlib.Core.Bool.{Bool, true, false, cond}
use mathlib.Core.List.{[]}
use Rattle.std.specs.Prelude.{Ok, Err}
use Rattle.ledger.specs.Opening.{Opening, legal}
use Rattle.ledger.specs.Ledger.{empty_ledger}
use Rattle.ledger.specs.Season.{after, after_from}
use Rattle.records.specs.Opening.{kept_opening, empty_opening}
use Rattle.records.proofs.OpeningLaws.{empty_legal}
use Rattle.records.specs.declared.setup.KeptOpening.{KeptOpening}
use Rattle.records.specs.declared.refusal.Refusal.{Refusal}
use Rattle.opening.specs.Opened.{opened, opening_answer, resulting_opening}
use Rattle.opening.proofs.KeptOpening.{opened_kept, opened_not}
use Rattle.book.specs.Reading.{book_in, book_of}
use Rattle.book.specs.Reachable.{Reachable}
use Rattle.book.specs.Opened.{opening_outcome}

-- the opening that is in force: the one given, or the empty one
in_force_legal : (o : Opening) → legal (resulting_opening o) ≡ true
unfolding resulting_opening
in_force_legal o = go (legal o) refl
  where
    go : (t : Bool) → legal o ≡ t → legal (cond t o empty_opening) ≡ true
    go true e = e
    go false e = empty_legal

-- every book that opening returns is one that opening and no call lead to
pub opened_reachable : (o : Opening) → Reachable (opening_outcome o).book
unfolding opening_outcome book_of book_in after after_from
opened_reachable o = record { opening = resulting_opening o; calls = []; is_legal = in_force_legal o; of_opening = refl; of_figures = refl; of_posted = refl; of_evidence = refl }

-- after a legal opening the book is that of the opening
pub opened_book : (o : Opening) → legal o ≡ true → (opening_outcome o).book ≡ book_of (kept_opening o) empty_ledger
unfolding opening_outcome resulting_opening
opened_book o e = ap (λ t. book_of (kept_opening (cond t o empty_opening)) empty_ledger) e

-- what is returned beside an opening that is kept, and beside a refusal
pub opened_done : (o : Opening) (kept : KeptOpening) → Ok kept ≡ opened o → record { answer = Ok tt; book = book_of kept empty_ledger } ≡ opening_outcome o
unfolding opening_outcome opening_answer resulting_opening
opened_done o kept e = let k = opened_kept o kept e in rw k.0 (ap (λ x. record { answer = Ok tt; book = book_of x empty_ledger }) k.1)

pub opened_refused : (o : Opening) (refusal : Refusal) → Err refusal ≡ opened o → record { answer = Err refusal; book = book_of (kept_opening empty_opening) empty_ledger } ≡ opening_outcome o
unfolding opening_outcome opening_answer resulting_opening
opened_refused o refusal e = let k = opened_not o refusal e in rw k.0 (ap (λ r. record { answer = Err r; book = book_of (kept_opening empty_opening) empty_ledger }) k.1)

-- and both are books
pub kept_reachable : (o : Opening) (kept : KeptOpening) → Ok kept ≡ opened o → Reachable (book_of kept empty_ledger)
kept_reachable o kept e = subst (λ outcome. Reachable outcome.book) (sym (opened_done o kept e)) (opened_reachable o)

pub nothing_reachable : Reachable (book_of (kept_opening empty_opening) empty_ledger)
nothing_reachable = subst Reachable (opened_book empty_opening empty_legal) (opened_reachable empty_opening)
