-- `load::columns::load_columns` meets its contract: unequal lengths are unreadable, past 2,208 blocks comes the refusal, else what `load` gives for the list
-- of blocks. Assumes nothing.
use Rattle.std.proofs.Common.{sym, ◌∙◌, arith}
use Rattle.load.proofs.CountedColumns.{uneven, stranger, too_many}
use Rattle.load.proofs.columns.load_columns.Goals as goal

pub returns-then-not-same_lengths : goal.returns-then-not-same_lengths
returns-then-not-same_lengths c x r = uneven _ _ _ x r _ _ _ _ _ _ _ _ (sym c.same_lengths.ensures ∙ c.if-not-same_lengths.true)

pub returns-then-unknown_holder : goal.returns-then-unknown_holder
returns-then-unknown_holder c x r = stranger _ _ _ x r _ _ _ _ _ _ _ _ (sym c.same_lengths.ensures ∙ c.if-not-same_lengths.false) (grind arith)

pub returns-then-count-gt-MAX_BLOCKS : goal.returns-then-count-gt-MAX_BLOCKS
returns-then-count-gt-MAX_BLOCKS c x r = too_many _ _ _ x r _ _ _ _ _ _ _ _ (sym c.same_lengths.ensures ∙ c.if-not-same_lengths.false) c.if-count-gt-MAX_BLOCKS.true (grind arith)
