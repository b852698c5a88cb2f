use Rattle.std.proofs.Common.{◌≤◌, length}
use Rattle.bw_digest.specs.Rows.{reach}
use Rattle.bw_file.specs.Written.{AreSumsUpTo}
use Rattle.bw_file.proofs.sums.sums_for.Given as goal

-- no piece ends past the bytes, and each so far has its sum
abbrev pub invariant-loop-end : goal.invariant-loop-end
invariant-loop-end l = ((reach l.row).end ≤ length l.bytes) × AreSumsUpTo l.bytes (reach l.row) l.list.items
