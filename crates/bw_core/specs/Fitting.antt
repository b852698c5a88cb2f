-- Whether a group's blocks have room in the frame in the making.

use Rattle.std.specs.Prelude.{◌≤◌, List}
use Rattle.bw_record.specs.declared.record.Record.{Record}
use Rattle.bw_record.specs.declared.block.Place.{Place}
use Rattle.bw_record.specs.declared.block.Block.{Block}
use Rattle.bw_page.specs.Leaves.{directed_at}
use Rattle.bw_buffer.specs.Filling.{frame_of, size_of, with_all}
use Rattle.bw_making.specs.Adding.{Drawn, blocks_for, blocks_all, back_in, here_for, last_for}
use Rattle.bw_core.specs.Kept.{Kept}

-- what the blocks of a record are made from
abbrev pub drawn_of : Kept → Drawn
drawn_of s = record { leaves = s.filed.leaves; newest = s.newest; frame = frame_of s.making }

-- the last block of the page at which the record is directed
abbrev pub back_for : Kept → Record → Place
back_for s item = back_in (drawn_of s) item

-- where its Delta goes in the frame in the making, and where a Split after that goes
abbrev pub here_at : Kept → Record → Place
here_at s item = here_for (frame_of s.making) (directed_at s.filed.leaves item)

abbrev pub last_at : Kept → Record → Place
last_at s item = last_for (frame_of s.making) (directed_at s.filed.leaves item)

-- the blocks that the record would add to the frame in the making
abbrev pub blocks_at : Kept → Record → List Block
blocks_at s item = blocks_for s.filed.m s.filed.leaves (back_for s item) (here_at s item) item

-- the blocks that the records of a group would add, one after the other
abbrev pub group_blocks : Kept → List Record → List Block
group_blocks s group = blocks_all s.filed.m (drawn_of s) group

-- they fit: the frame with all of them is not too long
abbrev pub Fits : Kept → List Record → Type 0
Fits s group = size_of (with_all s.making (group_blocks s group)) ≤ s.making.limit
