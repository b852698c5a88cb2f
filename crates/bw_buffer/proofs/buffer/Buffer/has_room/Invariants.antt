use Rattle.std.proofs.Common.{◌≡◌, ◌+◌, take}
use Rattle.bw_buffer.specs.Filling.{size_of, with_all}
use Rattle.bw_buffer.proofs.buffer.Buffer.has_room.Given as goal

abbrev pub invariant-loop-at : goal.invariant-loop-at
invariant-loop-at l = l.left + size_of (with_all l.self (take l.at l.blocks)) ≡ l.self.limit
