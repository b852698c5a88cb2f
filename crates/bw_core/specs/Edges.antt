-- Where a store's own bytes begin, and the segments that it began.

use Rattle.std.specs.Prelude.{ℕ, ◌+◌, ◌-◌, ◌≡◌, ◌≤◌, ◌⊎◌, IfSome, length}
use Rattle.bw_log.specs.Appends.{last_of}
use Rattle.bw_log.specs.Contents.{Contents, IsRoomy}
use Rattle.bw_core.specs.declared.origin.Edge.{Edge}

-- the number of the newest live segment, if there is one
abbrev pub newest_number : Contents → ℕ
newest_number c = c.number + (length c.live - 1)

-- the segment that was newest at reopen has a header at least; after open there was none
abbrev pub IsEdge : Edge → Type 0
IsEdge edge = (edge.segment ≡ 0) ⊎ (24 ≤ edge.length)

-- the newest segment was newest at reopen, or the store began it, in a spare with room for a header and a frame
abbrev pub IsBegun : Edge → Contents → Type 0
IsBegun edge c = IfSome (last_of c.live) (λ h. (newest_number c ≡ edge.segment) ⊎ IsRoomy c.f h)
