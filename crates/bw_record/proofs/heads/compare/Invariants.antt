use Rattle.std.proofs.Common.{◌≡◌, length}
use Rattle.bw_record.specs.Keys.{order}
use Rattle.bw_record.proofs.heads.compare.Given as goal

abbrev pub invariant-heads : goal.invariant-heads
invariant-heads l = order l.ours l.theirs ≡ order l.a l.b

abbrev pub decreases-heads : goal.decreases-heads
decreases-heads l = length l.ours
