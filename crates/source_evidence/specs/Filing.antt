-- What a caller's numbers for verify come to: an entry, or a field outside its range (01, Posting, Verify; 02, 1/14; cause 3).
use Rattle.std.specs.Prelude.{ℕ, Bool, cond, not, ◌||◌, ltb, Result, Ok, Err}
use Rattle.source_evidence.specs.declared.filing.Filing.{Filing}
use Rattle.source_evidence.specs.declared.filing.Filed.{Filed}
use Rattle.source_evidence.specs.declared.filing.OutOfRange.{OutOfRange}
use Rattle.source_evidence.specs.Evidence.{entry_of, highest_right}
use Rattle.source_evidence.specs.Kind.{kind_of}
use Rattle.tariff.specs.Sizes.{ownership, contract, ten_year_mark}
use Rattle.tariff.specs.Ranges.{within, kw_out_of_range, month_out_of_range}

-- verify: kind 1 or 2, the right from 1 to the highest of its kind, months 1 to 3 in order, the mark 0 or 1 (02, 1/14)
unfoldable pub evidence_out_of_range : ℕ → ℕ → ℕ → ℕ → ℕ → ℕ → Bool
evidence_out_of_range kind capacity right first last mark =
    not (within ownership contract kind)
    || kw_out_of_range capacity
    || not (within 1 (highest_right kind capacity) right)
    || month_out_of_range first
    || month_out_of_range last
    || ltb last first
    || ltb ten_year_mark mark

-- the same of a filing, and of its numbers beside the kind as those of another kind
abbrev pub is_out_of_range : Filing → Bool
is_out_of_range f = evidence_out_of_range f.kind f.capacity f.right f.first f.last f.mark

abbrev pub is_out_of_range_as : ℕ → Filing → Bool
is_out_of_range_as kind f = evidence_out_of_range kind f.capacity f.right f.first f.last f.mark

-- what a filing in range files
unfoldable pub filed_of : Filing → Filed
filed_of f = record { kind = kind_of f.kind; entry = entry_of f.kind f.capacity f.right f.first f.last f.mark }

-- what a filing comes to: what it files, or that a number is out of range
unfoldable pub filing_outcome : Filing → Result Filed OutOfRange
filing_outcome f = cond (is_out_of_range f) (Err (record {})) (Ok (filed_of f))
