use Rattle.std.proofs.Common.{◌≡◌}
use Rattle.std.specs.Prelude.{IsSome}
use Rattle.bw_keys.specs.Filled.{IsFilled}
use Rattle.bw_keys.proofs.filling.Filling.next_due.Given as goal

abbrev pub invariant-records : goal.invariant-records
invariant-records g l = record {
  given : l.self.given ≡ l.initial.self.given;
  filled :
      IsFilled l.initial.self.given.value l.initial.self.held (IsSome l.initial.self.end) (g.S.Records.given l.initial.self.records)
      → IsFilled l.self.given.value l.self.held (IsSome l.self.end) (g.S.Records.given l.self.records);
}
