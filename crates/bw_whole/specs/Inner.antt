-- Frames as they stand in memory.

use Rattle.std.specs.Prelude.{◌+◌, ◌≤◌, ◌≡◌, false}
use Rattle.bw_whole.specs.Framing.{Framed}
use Rattle.bw_whole.specs.Listing.{bytes_of}
use Rattle.bw_whole.specs.declared.frames.Frames.TheInside.{Inside}

abbrev pub framed_of : Inside → Framed
framed_of a = record { m = a.m; room = a.room; closed = bytes_of a.closed.items; newest = a.newest.items; filling = a.filling }

pub record IsFramed (a : Inside) : Type 0 where
  pub pairs : (4 ≤ a.m) × (a.m ≤ 32)
  pub unsealed : a.filling.is_sealed ≡ false
  pub segment : (24 + a.filling.limit ≤ a.room) × (a.room ≤ 1073741824)
