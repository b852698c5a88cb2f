use Rattle.bw_home.specs.Sharing.{IsShared}
use Rattle.bw_writers.proofs.legs.Legs.go_on.Given as goal

abbrev pub invariant-legs : goal.invariant-legs
invariant-legs g l = IsShared l.home (λ z. (goal.Segment-dyn g z).holding z.1)
