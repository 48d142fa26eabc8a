-- `opening::setup_lists::SetupLists::keep` meets its contract: the lines that find room stand in their places, and past the last number of a list stands 0. Assumes nothing.
use Rattle.std.proofs.Common.{rules}
use Rattle.tariff.proofs.FromFn.{made_entries}
use Rattle.records.specs.Opening.{with_room, no_sink, no_path, opening_from}
use Rattle.opening.specs.Opened.{opening_listed}
use Rattle.opening.proofs.KeptOpening.{kept_by_lines}
use Rattle.opening.proofs.setup_lists.SetupLists.keep.Goals as goal

pub returns : goal.returns
unfolding with_room opening_from
returns c =
    kept_by_lines (opening_listed c.args.self) _ _ _
    (made_entries 0 _ _ _ (λ k y q called. search rules) 8 _ c.from_fn.ensures.items)
    (made_entries no_sink _ _ _ (λ k y q called. search rules) 16 _ c.from_fn-2.ensures.items)
    (made_entries no_path _ _ _ (λ k y q called. search rules) 16 _ c.from_fn-3.ensures.items)
