use Rattle.bw_home.specs.Keeping.{KeepsEntries}
use Rattle.bw_home.proofs.home.Home.let_pages_go.Given as goal

abbrev pub invariant-batches : goal.invariant-batches
invariant-batches g l = KeepsEntries l.initial.self l.self (λ z. (goal.Segment-dyn g z).holding z.1)
