-- The numbers of the refusals, and what the ledger's answers are in the code's words.
use Rattle.std.specs.Prelude.{ℕ, ◌-◌, List, [], ◌∷◌, get_or, Result, Ok, Err}
use Rattle.load_metric.specs.declared.load.BlockError.{BlockError}
use Rattle.load_metric.specs.declared.load.BlockError.TheVariants.{Broken, Missing}
use Rattle.ledger.specs.Numbers.{unreadable, not_in_book, out_of_range, not_at_this_time, posted_before, broken_blocks, hours_missing, not_between_lses, loss_above_load, sink_ineligible, above_verified, above_prior, above_limit, above_nominated, breaks_rules, above_tier1_award, no_ten_year_evidence, unverified}
use Rattle.records.specs.declared.refusal.Refusal.{Refusal}
use Rattle.records.specs.declared.refusal.Refusal.TheVariants.{Unreadable, NotInBook, OutOfRange, NotAtThisTime, PostedBefore, BrokenBlocks, HoursMissing, NotBetweenLses, LossAboveLoad, SinkIneligible, AboveVerified, AbovePrior, AboveLimit, AboveNominated, OutputTooShort, BreaksRules, AboveTier1Award, NoTenYearEvidence, Unverified}

-- 01's number of each refusal; 15 belongs to the host
abbrev pub number_of : Refusal → ℕ
number_of Unreadable = unreadable
number_of NotInBook = not_in_book
number_of OutOfRange = out_of_range
number_of NotAtThisTime = not_at_this_time
number_of PostedBefore = posted_before
number_of BrokenBlocks = broken_blocks
number_of HoursMissing = hours_missing
number_of NotBetweenLses = not_between_lses
number_of LossAboveLoad = loss_above_load
number_of SinkIneligible = sink_ineligible
number_of AboveVerified = above_verified
number_of AbovePrior = above_prior
number_of AboveLimit = above_limit
number_of AboveNominated = above_nominated
number_of OutputTooShort = 15
number_of BreaksRules = breaks_rules
number_of AboveTier1Award = above_tier1_award
number_of NoTenYearEvidence = no_ten_year_evidence
number_of Unverified = unverified

-- the number of what refuses, 0 where nothing does
abbrev pub refused_by : {A : Type 0} → Result A Refusal → ℕ
refused_by (Ok given) = 0
refused_by (Err refusal) = number_of refusal

-- why a block list is refused
abbrev pub of_blocks : BlockError → Refusal
of_blocks Broken = BrokenBlocks
of_blocks Missing = HoursMissing

-- all of them, by their numbers
unfoldable pub refusals : List Refusal
refusals =
    Unreadable
    ∷ NotInBook
    ∷ OutOfRange
    ∷ NotAtThisTime
    ∷ PostedBefore
    ∷ BrokenBlocks
    ∷ HoursMissing
    ∷ NotBetweenLses
    ∷ LossAboveLoad
    ∷ SinkIneligible
    ∷ AboveVerified
    ∷ AbovePrior
    ∷ AboveLimit
    ∷ AboveNominated
    ∷ OutputTooShort
    ∷ BreaksRules
    ∷ AboveTier1Award
    ∷ NoTenYearEvidence
    ∷ Unverified
    ∷ []

-- the refusal of a number; no call or query is refused by another number than theirs
unfoldable pub refusal_of : ℕ → Refusal
refusal_of number = get_or refusals (number - 1) Unreadable
