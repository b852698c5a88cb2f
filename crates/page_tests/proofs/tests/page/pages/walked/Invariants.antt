use Rattle.std.proofs.Common.{◌≡◌, []}
use Rattle.page_tests.proofs.tests.page.pages.walked.Given as goal

abbrev pub invariant-loop-i : goal.invariant-loop-i
invariant-loop-i l = l.leaves.evicted ≡ []
