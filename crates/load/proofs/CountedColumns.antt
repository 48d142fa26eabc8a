-- A load whose blocks stand in columns: up to 2,208 blocks are posted as a list of them is, more are refused, and columns of unequal length are unreadable.
-- Assumes nothing.
use Rattle.std.proofs.Common.{◌≡◌, ℕ, ◌<◌, ◌≤◌, Bool, true, false, ◌||◌, List, length, get_or, take, refl, sym, ap, subst, ◌∙◌, arith}
use mathlib.Core.Bool.{not, or-true}
use lib.Seq.{ext_get_or, get_or-take, length-take-le}
use borrow.Author.Tests.{lt-ltb}
use Rattle.std.specs.Prelude.{Result, Err, ltb}
use Rattle.tariff.specs.Sizes.{max_hours}
use Rattle.tariff.specs.Sum.{any_of, tabulate}
use Rattle.tariff.specs.Ranges.{max_kw, within, term_out_of_range}
use Rattle.tariff.proofs.Tests.{or_left_true, both_ways}
use Rattle.tariff.proofs.Lists.{length_tabulate, at_tabulate}
use Rattle.load_metric.specs.declared.block.Block.{Block}
use Rattle.load_metric.specs.Columns.{blocks_of, same_lengths}
use Rattle.load_metric.proofs.Blocks.{zero_block}
use Rattle.load_metric.proofs.ColumnLaws.{same_lengths_lem, block_count, block_of}
use Rattle.source_evidence.specs.declared.evidence.Entry.{Entry}
use Rattle.ledger.specs.Opening.{Opening}
use Rattle.ledger.specs.Ledger.{Ledger}
use Rattle.ledger.specs.Numbers.{not_in_book, out_of_range}
use Rattle.ledger.specs.Ranges.{unknown_holder, unknown_sink, load_out_of_range}
use Rattle.ledger.specs.Call.{Call, load}
use Rattle.ledger.specs.Causes.{load_causes, call_causes, refusal}
use Rattle.records.specs.declared.setup.KeptOpening.{KeptOpening}
use Rattle.records.specs.declared.refusal.Refusal.{Refusal}
use Rattle.records.specs.declared.refusal.Refusal.TheVariants.{Unreadable, NotInBook, OutOfRange}
use Rattle.records.specs.Opening.{opening_in}
use Rattle.records.proofs.MetCauses.{met_first, unmet_first}
use Rattle.slots.specs.Layout.{ledger_in}
use Rattle.slots.specs.Steps.{Reachable, Steps, StepsIf}
use Rattle.slots.proofs.Reachable.{figures_known, posted_known, evidence_known}
use Rattle.slots.proofs.StepLaws.{steps_refused}

module _ (fs hs ks : List ℕ) where
  abbrev column_block : ℕ → Block
  column_block k = record { first = get_or fs k 0; hours = get_or hs k 0; kw = get_or ks k 0 }

  -- blocks of columns are the first of an array that has room for them
  pub blocks_back : (room : ℕ) → same_lengths fs hs ks ≡ true → length fs ≤ room → take (length fs) (tabulate room column_block) ≡ blocks_of fs hs ks
  blocks_back room even few =
      let same = same_lengths_lem fs hs ks even in
      let all = length_tabulate room column_block in
      let long = length-take-le (length fs) (tabulate room column_block) (omega arith) in
      ext_get_or zero_block (take (length fs) (tabulate room column_block)) (blocks_of fs hs ks) (long ∙ sym (block_count fs hs ks same)) (λ k l.
      let below : k < length fs = omega arith in
      get_or-take (length fs) (tabulate room column_block) k zero_block below
      ∙ at_tabulate room column_block zero_block k (omega arith)
      ∙ sym (block_of fs hs ks k same below))

-- more than 2,208 blocks are out of range
many_out : (term contract n : ℕ) (bs : List Block) → max_hours < length bs → load_out_of_range term contract n bs ≡ true
unfolding load_out_of_range
many_out term contract n bs many =
    let fields = (term_out_of_range term || ltb max_kw contract) || not (within 1 max_hours n) in
    or_left_true (any_of bs (λ b. ltb max_kw b.kw)) (ap (λ t. fields || t) (lt-ltb max_hours (length bs) many) ∙ or-true fields)

module _ (o : KeptOpening) (f : List ℕ) (m : List Bool) (x : List Entry) (reach : Reachable o f m x) (h s term contract n : ℕ) (fs hs ks : List ℕ) where
  abbrev O : Opening
  O = opening_in o

  abbrev L : Ledger
  L = ledger_in f m x

  abbrev even : Bool
  even = same_lengths fs hs ks

  abbrev call : Call
  call = load h s term contract n (blocks_of fs hs ks)

  abbrev Outcome : Result (Unit {0}) Refusal → List ℕ → List Bool → Type 0
  Outcome answer f' m' = StepsIf even O L call answer f' m' x

  -- columns of unequal length
  pub uneven : even ≡ false → Outcome (Err Unreadable) f m
  uneven odd =
      record {
        equal = λ t. absurd (both_ways t odd);
        unequal = λ t. record { answered = refl; figures = figures_known o f m x reach; posted = posted_known o f m x reach; evidence = evidence_known o f m x reach };
      }

  -- and of equal length
  module _ (same : even ≡ true) where
    pub evenly : {answer : Result (Unit {0}) Refusal} {f' : List ℕ} {m' : List Bool} → Steps O L call answer f' m' x → Outcome answer f' m'
    evenly steps = record { equal = λ t. steps; unequal = λ odd. absurd (both_ways same odd) }

    pub stranger : (unknown_holder O h || unknown_sink O s) ≡ true → Outcome (Err NotInBook) f m
    unfolding refusal call_causes load_causes
    stranger unknown = evenly (steps_refused o f m x call NotInBook (met_first not_in_book _ _ unknown) reach)

    pub too_many : max_hours < length fs → (unknown_holder O h || unknown_sink O s) ≡ false → Outcome (Err OutOfRange) f m
    unfolding refusal call_causes load_causes
    too_many many known =
        let count = block_count fs hs ks (same_lengths_lem fs hs ks same) in
        let out = many_out term contract n (blocks_of fs hs ks) (omega arith) in
        evenly (steps_refused o f m x call OutOfRange (unmet_first not_in_book _ _ known (met_first out_of_range _ _ out)) reach)

    -- what a load of the first blocks leaves, a load of the columns does
    pub counted : (room : ℕ) (blocks : List Block) {answer : Result (Unit {0}) Refusal} {f' : List ℕ} {m' : List Bool} → length fs ≤ room → blocks ≡ tabulate room (column_block fs hs ks) → Steps O L (load h s term contract n (take (length fs) blocks)) answer f' m' x → Steps O L call answer f' m' x
    counted room blocks {answer} {f'} {m'} few are steps =
        let back = ap (take (length fs)) are ∙ blocks_back fs hs ks room same few in
        subst (λ bs. Steps O L (load h s term contract n bs) answer f' m' x) back steps
