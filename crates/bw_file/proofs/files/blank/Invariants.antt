use Rattle.std.proofs.Common.{◌≤◌, ◌-◌, length}
use Rattle.std.specs.Vec.{vec_capacity}
use Rattle.bw_file.proofs.files.blank.Given as goal

abbrev pub invariant-pieces : goal.invariant-pieces
invariant-pieces l = (within : length l.bytes.items ≤ l.len) × (l.room ≤ vec_capacity l.bytes)

abbrev pub decreases-pieces : goal.decreases-pieces
decreases-pieces l = l.len - length l.bytes.items
