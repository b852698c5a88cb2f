use Rattle.bw_home.specs.Ready.{IsReady}
use Rattle.users.proofs.fill.Given as goal

abbrev pub invariant-users : goal.invariant-users
invariant-users g l = IsReady l.home (λ z. (goal.Segment-dyn g z).holding z.1)
