use Rattle.bw_home.specs.Keeping.{KeepsEntries}
use Rattle.bw_home.proofs.home.Home.evict_all.Given as goal

abbrev pub invariant-pages : goal.invariant-pages
invariant-pages g l = KeepsEntries l.initial.self l.self (λ z. (goal.Segment-dyn g z).holding z.1)
