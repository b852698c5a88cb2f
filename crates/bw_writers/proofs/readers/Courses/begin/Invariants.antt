use Rattle.bw_home.specs.Sharing.{IsShared}
use Rattle.bw_writers.proofs.readers.Courses.begin.Given as goal

abbrev pub invariant-keys : goal.invariant-keys
invariant-keys g l = IsShared l.home (λ z. (goal.Segment-dyn g z).holding z.1)
