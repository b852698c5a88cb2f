-- The home is ready before each group.
use Rattle.bw_home.specs.Ready.{IsReady}
use Rattle.folder_tests.proofs.tests.in_memory.taken_of.Given as goal

abbrev pub invariant-groups : goal.invariant-groups
invariant-groups g l = IsReady l.home (λ z. (goal.Segment-dyn g z).holding z.1)
