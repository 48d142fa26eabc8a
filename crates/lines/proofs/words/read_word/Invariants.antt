-- `lines::words::read_word` meets its contract: the number of the letters read so far is below a power of 32, so that eight of them fit. Assumes nothing.
use Prim.Native.Nat.{◌^◌, ◌≤◌, ◌<◌}
use lib.ListN.{length}
use Rattle.lines.specs.Words.{max_letters}
use Rattle.lines.proofs.WordLaws.{LettersTo}
use Rattle.lines.proofs.words.read_word.Given as goal

abbrev pub invariant-loop-i : goal.invariant-loop-i
invariant-loop-i l = (l.i ≤ l.limit) × (l.limit ≤ length l.rest) × (l.limit ≤ max_letters) × (l.key < 32 ^ l.i) × LettersTo l.rest l.i l.key
