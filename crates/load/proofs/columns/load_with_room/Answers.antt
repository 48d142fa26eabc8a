-- `load::columns::load_with_room` meets its contract: the blocks put together are those of the columns. Assumes nothing.
use Rattle.std.proofs.Common.{arith}
use Rattle.load.proofs.CountedColumns.{counted}
use Rattle.load.proofs.columns.load_with_room.Goals as goal

pub first_blocks-blocks-requires : goal.first_blocks-blocks-requires
first_blocks-blocks-requires g c = let small = c.requires.memory in omega arith

pub shared_whole_as_front-counted : goal.shared_whole_as_front-counted
shared_whole_as_front-counted g c = let small = c.requires.memory in (c.requires.room, omega arith)

pub returns : goal.returns
returns g c x r = counted _ _ _ x r _ _ _ _ _ _ _ _ c.requires.even g.row.N _ c.requires.room c.first_blocks-blocks.ensures (c.load.ensures x r)
