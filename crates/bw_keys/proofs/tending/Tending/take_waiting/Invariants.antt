use Rattle.std.specs.Prelude.{◌≡◌}
use Rattle.bw_home.specs.Ready.{IsReady}
use Rattle.bw_keys.proofs.tending.Tending.take_waiting.Given as goal

abbrev pub invariant-parts : goal.invariant-parts
invariant-parts g l = record {
  ready : IsReady l.home (λ z. (goal.Segment-dyn g z).holding z.1);
  feeds : l.home.feeds ≡ l.initial.home.feeds;
}
