use Rattle.std.proofs.Common.{◌≡◌, ◌++◌, ◌≤◌, ◌-◌, length, take, replicate}
use Rattle.bw.proofs.keys.after.Given as goal

-- after this end each byte is the greatest
abbrev pub invariant-loop-end : goal.invariant-loop-end
invariant-loop-end l = (l.bytes ≡ take l.end l.bytes ++ replicate (128 - l.end) 255) × (l.end ≤ 128) × (length l.bytes ≡ 128) × (l.bytes ≡ l.key)

abbrev pub decreases-loop-end : goal.decreases-loop-end
decreases-loop-end l = l.end
