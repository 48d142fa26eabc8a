-- `counted_lines::book_lines::read_book_lists` meets its contract: each kind of lines is read where those before it end, and the set line after them. Assumes nothing.
use Rattle.std.proofs.Common.{◌≡◌, List, ◌∙◌, ap, replicate, rules}
use Rattle.std.specs.Option.{unwrap_or}
use Rattle.counted_lines.specs.Counted.{with_lines}
use Rattle.counted_lines.proofs.LineBytes.{here_within}
use Rattle.counted_lines.proofs.BookLines.{consumed_is, at_paths, at_set, end_within, lists_read}
use Rattle.counted_lines.proofs.book_lines.read_book_lists.Goals as goal

-- lines put over defaults
kept_over : {A : Type 0} {none other : A} {kept : List A} (lines : List A) → none ≡ other → kept ≡ with_lines lines (replicate 16 none) → kept ≡ with_lines lines (replicate 16 other)
kept_over lines same kept = kept ∙ ap (λ x. with_lines lines (replicate 16 x)) same

pub slice_bounds-read_counted-count : goal.slice_bounds-read_counted-count
slice_bounds-read_counted-count c = here_within _ _ _ (consumed_is _ _ _ _ c.read_counted-holders.ensures.counted)

pub slice_bounds-read_counted-start : goal.slice_bounds-read_counted-start
slice_bounds-read_counted-start c = let within = here_within _ _ _ (consumed_is _ _ _ _ c.read_counted-holders.ensures.counted) in search rules

pub overflow_add-at_paths : goal.overflow_add-at_paths
overflow_add-at_paths c = let within = here_within _ _ _ (at_paths _ c.args.head _ _ c.read_counted-holders.ensures.counted c.read_counted-sinks.ensures.counted) in search rules

pub slice_bounds-read_counted-count-2 : goal.slice_bounds-read_counted-count-2
slice_bounds-read_counted-count-2 c = here_within _ _ _ (at_paths _ c.args.head _ _ c.read_counted-holders.ensures.counted c.read_counted-sinks.ensures.counted)

pub slice_bounds-read_counted-start-2 : goal.slice_bounds-read_counted-start-2
slice_bounds-read_counted-start-2 c = let within = here_within _ _ _ (at_paths _ c.args.head _ _ c.read_counted-holders.ensures.counted c.read_counted-sinks.ensures.counted) in search rules

pub overflow_add-at_set : goal.overflow_add-at_set
overflow_add-at_set c = let within = here_within _ _ _ (at_set _ c.args.head _ _ c.read_counted-holders.ensures.counted c.read_counted-sinks.ensures.counted _ c.read_counted-paths.ensures.counted) in search rules

pub slice_bounds-read_set_line-count : goal.slice_bounds-read_set_line-count
slice_bounds-read_set_line-count c = here_within _ _ _ (at_set _ c.args.head _ _ c.read_counted-holders.ensures.counted c.read_counted-sinks.ensures.counted _ c.read_counted-paths.ensures.counted)

pub slice_bounds-read_set_line-start : goal.slice_bounds-read_set_line-start
slice_bounds-read_set_line-start c = let within = here_within _ _ _ (at_set _ c.args.head _ _ c.read_counted-holders.ensures.counted c.read_counted-sinks.ensures.counted _ c.read_counted-paths.ensures.counted) in search rules

pub overflow_add-result : goal.overflow_add-result
overflow_add-result c = let long = c.well_formed.0.0 in let within = end_within _ c.args.head _ _ c.read_counted-holders.ensures.counted c.read_counted-sinks.ensures.counted _ c.read_counted-paths.ensures.counted _ c.read_set_line-set.ensures in search rules

pub returns : goal.returns
returns c =
    rw c.is_some.ensures
    (lists_read _ c.args.head _ _ c.read_counted-holders.ensures.counted c.read_counted-sinks.ensures.counted _ c.read_counted-paths.ensures.counted _ c.read_set_line-set.ensures _ _ _ c.read_counted-holders.ensures.kept (kept_over _ (search rules) c.read_counted-sinks.ensures.kept) (kept_over _ (search rules) c.read_counted-paths.ensures.kept) _ (c.unwrap_or.ensures ∙ ap (λ d. unwrap_or c.read_set_line-set.result.settings d) c.present.ensures))
