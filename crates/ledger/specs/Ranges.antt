-- Which numbers are in the book (cause 2), and which fields are in range (cause 3).
use Rattle.std.specs.Prelude.{ℕ, Bool, not, ◌||◌, List, length, leb, ltb}
use Rattle.netting.specs.declared.netting.ClassLine.{ClassLine}
use Rattle.tariff.specs.Sizes.{max_hours, long_term_step, max_class_lines}
use Rattle.tariff.specs.Sum.{any_of}
use Rattle.load_metric.specs.declared.block.Block.{Block}
use Rattle.tariff.specs.Ranges.{max_kw, within, kw_out_of_range, term_out_of_range}
use Rattle.netting.specs.ClassRanges.{class_line_out_of_range}
use Rattle.ledger.specs.Opening.{Opening}

-- cause 2: a number that is not below its count

unfoldable pub unknown_holder : Opening → ℕ → Bool
unknown_holder o h = leb o.holders h

unfoldable pub unknown_source : Opening → ℕ → Bool
unknown_source o s = leb o.sources s

unfoldable pub unknown_sink : Opening → ℕ → Bool
unknown_sink o s = leb o.sinks s

unfoldable pub unknown_path : Opening → ℕ → Bool
unknown_path o p = leb o.paths p

-- a class line names a holder that is not in the book
unfoldable pub unknown_holder_in : Opening → List ClassLine → Bool
unknown_holder_in o lines = any_of lines (λ l. unknown_holder o l.from || unknown_holder o l.to)

-- cause 3, beside the ranges of the tariff's own numbers

-- load: contract load 0 to the most kW, hours 1 to 2,208, at most 2,208 blocks, none above the most kW
unfoldable pub load_out_of_range : ℕ → ℕ → ℕ → List Block → Bool
load_out_of_range term contract n blocks =
    term_out_of_range term
    || ltb max_kw contract
    || not (within 1 max_hours n)
    || ltb max_hours (length blocks)
    || any_of blocks (λ b. ltb max_kw b.kw)

-- prior: of a kW allocated, l went to Long Term, 0 ≤ l ≤ a
unfoldable pub prior_out_of_range : ℕ → ℕ → Bool
prior_out_of_range a l = kw_out_of_range a || ltb a l

-- migrate: at most 64 class lines
unfoldable pub migration_out_of_range : ℕ → List ClassLine → Bool
migration_out_of_range term lines = term_out_of_range term || ltb max_class_lines (length lines) || any_of lines class_line_out_of_range

-- open: a tier, 1 to 9, or the Long Term step, 10 (02, 1/14)
unfoldable pub tier_out_of_range : ℕ → Bool
tier_out_of_range tier = not (within 1 long_term_step tier)
