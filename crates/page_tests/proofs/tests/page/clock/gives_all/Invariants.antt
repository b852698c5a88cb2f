use Rattle.std.proofs.Common.{◌≡◌}
use Rattle.page_tests.proofs.tests.page.clock.gives_all.Given as goal

abbrev pub invariant-loop-page : goal.invariant-loop-page
invariant-loop-page l = l.leaves ≡ l.fn.leaves
