use Rattle.bw_home.specs.Ready.{IsReady}
use Rattle.users.proofs.users.print_all.Given as goal

abbrev pub invariant-keys : goal.invariant-keys
invariant-keys g l = IsReady l.home (λ z. (goal.Segment-dyn g z).holding z.1)
