use Rattle.std.specs.Prelude.{◌≡◌}
use Rattle.bw_home.specs.Ready.{IsReady}
use Rattle.bw_keys.specs.Loading.{queues, waits, PutsAll}
use Rattle.bw_keys.specs.declared.load.Wanted.TheVariants.{All}
use Rattle.bw_keys.proofs.load.Load.up_to_room.Given as goal

abbrev pub invariant-steps : goal.invariant-steps
invariant-steps g l = record {
  ready : IsReady l.home (λ z. (goal.Segment-dyn g z).holding z.1);
  puts :
      l.wanted ≡ All
      → PutsAll (g.S.Records.given l.initial.self.records.now) (g.S.Records.given l.self.records.now) (queues l.initial.home) (queues l.home)
      (waits l.initial.self.next) (waits l.self.next);
}
