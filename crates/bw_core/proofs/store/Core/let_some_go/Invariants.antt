use Rattle.bw_core.specs.Keeping.{KeepsPages}
use Rattle.bw_core.proofs.store.Core.let_some_go.Given as goal

abbrev pub invariant-hand : goal.invariant-hand
invariant-hand g l = KeepsPages l.initial.self l.self (λ z. (goal.Segment-dyn g z).holding z.1)
