-- `opening::opening::keep_if_legal` meets its contract: a legal opening is kept, and any other refused. Assumes nothing.
use mathlib.Core.Path.{◌≡◌, refl, sym, ◌∙◌}
use mathlib.Core.Bool.{false, ◌&&◌}
use Rattle.ledger.specs.Opening.{legal}
use Rattle.records.specs.Opening.{opening_in}
use Rattle.tariff.proofs.Tests.{and_join, and_left_false, and_right_false}
use Rattle.opening.proofs.KeptOpening.{opened_done, opened_refused}
use Rattle.opening.proofs.opening.keep_if_legal.Goals as goal
use Rattle.opening.proofs.opening.keep_if_legal.Goals.{Joined-else-lists, else-lists-via-then-lists+else-is_legal, else-lists-via-else-lists}

-- the lists do not fit, or what is kept is not legal
not-legal : (c : Joined-else-lists) → (c.args.lists && legal (opening_in c.args.kept)) ≡ false
not-legal c = elim c.else-lists.branch [
  | else-lists-via-then-lists+else-is_legal w ↦ and_right_false _ (sym w.is_legal.ensures ∙ w.if-is_legal.false)
  | else-lists-via-else-lists w ↦ and_left_false _ w.if-lists.false
]

pub returns-then-is_legal : goal.returns-then-is_legal
returns-then-is_legal c = λ o keeps fits. opened_done _ _ keeps fits c.is_legal.ensures _ (and_join c.if-lists.true c.if-is_legal.true) c.path_bases-bases.ensures

pub returns : goal.returns
returns c = λ o keeps fits. opened_refused _ _ keeps fits refl (not-legal (goal.at.returns c).Joined-else-lists)
