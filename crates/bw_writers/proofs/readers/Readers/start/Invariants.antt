use Rattle.bw_home.specs.Sharing.{IsShared}
use Rattle.bw_writers.proofs.readers.Readers.start.Given as goal

abbrev pub invariant-readers : goal.invariant-readers
invariant-readers g l = IsShared l.home (λ z. (goal.Segment-dyn g z).holding z.1)
