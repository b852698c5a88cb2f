use Rattle.bw_home.specs.Sharing.{IsShared}
use Rattle.bw_writers.proofs.runs.pairs_of.Given as goal

abbrev pub invariant-pages : goal.invariant-pages
invariant-pages g l = IsShared l.home (λ z. (goal.Segment-dyn g z).holding z.1)
