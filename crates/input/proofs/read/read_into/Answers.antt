-- `input::read::read_into` meets its contract: each read goes on where the bytes so far end. Assumes nothing.
use Rattle.std.proofs.Common.{rules}
use Rattle.input.proofs.ReadLaws.{read_more}
use Rattle.input.proofs.read.read_into.Goals as goal

pub loop-length-preserved : goal.loop-length-preserved
loop-length-preserved g c =
    let within = c.loop-length.invariant.0 in
    let read = c.in-Ok.ensures in
    (search rules, search rules, read_more _ _ _ _ within read.bound.0 _ _ _ c.loop-length.invariant.2 read.bytes.0)
