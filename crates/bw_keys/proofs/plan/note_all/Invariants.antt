use Rattle.bw_care.specs.Found.{IsRecovered}
use Rattle.bw_keys.proofs.plan.note_all.Given as goal

abbrev pub invariant-records : goal.invariant-records
invariant-records g l = IsRecovered (λ b. (goal.Segment-dyn g (b.vtable, b.value)).holding b.value) l.pages
