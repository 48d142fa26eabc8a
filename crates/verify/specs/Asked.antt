-- The verify that a filing asks for.
use Rattle.std.specs.Prelude.{ℕ}
use Rattle.source_evidence.specs.declared.filing.Filing.{Filing}
use Rattle.ledger.specs.Call.{Call, verify}

abbrev pub verify_of : (h s : ℕ) → Filing → Call
verify_of h s f = verify h s f.kind f.capacity f.right f.first f.last f.mark
