use Rattle.bw_home.specs.Ready.{IsReady}
use Rattle.bw_named.proofs.import.Import.next_need.Given as goal

abbrev pub invariant-items : goal.invariant-items
invariant-items g l = IsReady l.home (λ z. (goal.Segment-dyn g z).holding z.1)
