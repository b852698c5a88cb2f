use Rattle.std.proofs.Common.{take}
use Rattle.bw_core.specs.Drafting.{IsAhead, Stands}
use Rattle.bw_core.specs.Views.{kept_by}
use Rattle.bw_core.proofs.store.Core.lay.Given as goal

abbrev pub invariant-records : goal.invariant-records
invariant-records g l = record {
  stands : Stands (kept_by l.self (λ z. (goal.Segment-dyn g z).holding z.1)) l.lane (take l.at l.records);
  ahead : IsAhead (kept_by l.self (λ z. (goal.Segment-dyn g z).holding z.1)) (take l.at l.records) l.draft;
}
