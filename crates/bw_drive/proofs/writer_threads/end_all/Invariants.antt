-- Some writers have ended; the others are still to be waited for.

use Rattle.std.proofs.Common.{◌+◌, ◌≤◌, length, map, vec_len}
use Rattle.std.specs.Vec.{vec_capacity}
use Rattle.bw_drive.specs.Pending.{job_of}
use Rattle.bw_drive.proofs.Ends.{HaveEnded}
use Rattle.bw_drive.proofs.writer_threads.end_all.Given as goal

abbrev pub invariant-ends : goal.invariant-ends
invariant-ends g l = record {
  some : HaveEnded (map job_of l.fn.writers.items) (map job_of l.writers.items) l.feeds.items l.counts.items;
  feeds_room : vec_len l.feeds + length l.writers.items ≤ vec_capacity l.feeds;
  counts_room : vec_len l.counts + length l.writers.items ≤ vec_capacity l.counts;
}

abbrev pub decreases-ends : goal.decreases-ends
decreases-ends g l = length l.writers.items
