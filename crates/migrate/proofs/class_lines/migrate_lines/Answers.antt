-- `migrate::class_lines::migrate_lines` meets its contract: past 64 lines the refusal, else what the core gives for the columns. Assumes nothing.
use native.Mathlib.Omega.{arith}
use Rattle.migrate.proofs.TakenApart.{stranger, too_many, moved}
use Rattle.migrate.proofs.class_lines.migrate_lines.Goals as goal

pub returns-then-unknown_sink : goal.returns-then-unknown_sink
returns-then-unknown_sink c m e r = stranger _ _ m e r _ _ _ (grind arith)

pub returns-then-n-gt-MAX_CLASS_LINES : goal.returns-then-n-gt-MAX_CLASS_LINES
returns-then-n-gt-MAX_CLASS_LINES c m e r = too_many _ _ m e r _ _ _ c.if-n-gt-MAX_CLASS_LINES.true (grind arith)

pub returns : goal.returns
returns c m e r = moved _ _ m e r _ _ c.args.lines.now _ _ _ c.if-n-gt-MAX_CLASS_LINES.false c.taken_apart-all.ensures (c.migrate.ensures m e r)
