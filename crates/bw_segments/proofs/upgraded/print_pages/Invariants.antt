use Rattle.bw_home.specs.Ready.{IsReady}
use Rattle.bw_segments.proofs.upgraded.print_pages.Given as goal

abbrev pub invariant-pages : goal.invariant-pages
invariant-pages g l = IsReady l.home (λ z. (goal.Segment-dyn g z).holding z.1)
