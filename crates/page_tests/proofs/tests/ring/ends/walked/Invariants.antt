-- The two ends stay those of one ring.
use Rattle.bw_ring.specs.Ends.{IsFeedOf}
use Rattle.page_tests.proofs.tests.ring.ends.walked.Given as goal

abbrev pub invariant-loop-i : goal.invariant-loop-i
invariant-loop-i l = IsFeedOf l.feed l.lane
