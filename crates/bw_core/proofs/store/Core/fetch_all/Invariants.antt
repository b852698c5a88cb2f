use Rattle.std.proofs.Common.{◌≡◌, take}
use Rattle.std.specs.List.{AllByRecursion}
use Rattle.bw_record.specs.Lawful.{IsOp}
use Rattle.bw_record.specs.Record.{key_of}
use Rattle.bw_page.specs.Shown.{IsHere}
use Rattle.bw_core.specs.Views.{kept_by, noted_of, IsSound}
use Rattle.bw_core.proofs.store.Core.fetch_all.Given as goal

abbrev pub invariant-records : goal.invariant-records
invariant-records g l = record {
  sound : IsSound l.self (λ z. (goal.Segment-dyn g z).holding z.1);
  intake : l.self.intake ≡ l.initial.self.intake;
  same : kept_by l.self (λ z. (goal.Segment-dyn g z).holding z.1) ≡ kept_by l.initial.self (λ z. (goal.Segment-dyn g z).holding z.1);
  here : AllByRecursion (λ r. IsHere (key_of r) l.self.pages.leaves) (take l.at l.records);
  ops : AllByRecursion IsOp (take l.at l.records);
  noted : noted_of l.self ≡ noted_of l.initial.self;
}
