-- The feeds and scripts so far are those of the writers; the others wait.

use Rattle.std.proofs.Common.{◌≡◌, ◌+◌, ◌≤◌, ◌++◌, length, map, vec_len}
use Rattle.std.specs.Vec.{vec_capacity}
use Rattle.bw_ring.specs.Ends.{accepted, ring_of_feed}
use Rattle.bw_drive.specs.Written.{texts, ring_of_job, given_before, script_of}
use Rattle.bw_drive.specs.Pending.{job_of}
use Rattle.bw_drive.proofs.writer_threads.start_all.Given as goal

abbrev pub invariant-starts : goal.invariant-starts
invariant-starts g l = record {
  rings : map ring_of_job (map job_of l.writers.items) ++ map ring_of_feed l.feeds.items ≡ map ring_of_feed l.fn.feeds.items;
  given : map given_before (map job_of l.writers.items) ++ map accepted l.feeds.items ≡ map accepted l.fn.feeds.items;
  scripts : map script_of (map job_of l.writers.items) ++ texts l.scripts.items ≡ texts l.fn.scripts.items;
  count : length l.scripts.items ≡ length l.feeds.items;
  total : vec_len l.writers + length l.feeds.items ≡ length l.fn.feeds.items;
  room : vec_len l.writers + length l.feeds.items ≤ vec_capacity l.writers;
}

abbrev pub decreases-starts : goal.decreases-starts
decreases-starts g l = length l.feeds.items
