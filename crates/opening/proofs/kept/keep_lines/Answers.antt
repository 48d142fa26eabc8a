-- `opening::kept::keep_lines` meets its contract: each line that finds room stands in its place, and past the last one stands 0. Assumes nothing.
use Rattle.std.proofs.Common.{rules}
use Rattle.tariff.proofs.FromFn.{made_entries}
use Rattle.records.specs.Opening.{with_room, no_sink, no_path}
use Rattle.opening.proofs.KeptOpening.{lines_kept}
use Rattle.opening.proofs.kept.keep_lines.Goals as goal

pub returns : goal.returns
unfolding with_room
returns c =
    let s = c.args.setup in
    lines_kept s _ _ _
    (made_entries 0 _ _ _ (λ k y q called. search rules) 8 _ c.from_fn.ensures.items)
    (made_entries no_sink _ _ _ (λ k y q called. search rules) 16 _ c.from_fn-2.ensures.items)
    (made_entries no_path _ _ _ (λ k y q called. search rules) 16 _ c.from_fn-3.ensures.items)
