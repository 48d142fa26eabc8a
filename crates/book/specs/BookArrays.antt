-- What contracts see of a book: all of it.
use Rattle.std.specs.Prelude.{ℕ, Bool, List}
use Rattle.records.specs.declared.setup.KeptOpening.{KeptOpening}
use Rattle.source_evidence.specs.declared.evidence.Entry.{Entry}

-- its opening, and its figures, postings and evidence in flat arrays
pub record BookArrays : Type 0 where
  pub opening : KeptOpening
  pub figures : List ℕ
  pub posted : List Bool
  pub evidence : List Entry
