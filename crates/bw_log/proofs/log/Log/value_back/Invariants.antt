use Rattle.std.proofs.Common.{◌≡◌}
use Rattle.bw_log.specs.Places.{all_placed}
use Rattle.bw_log.specs.Contents.{counted}
use Rattle.bw_log.specs.Views.{seen_by}
use Rattle.bw_log.proofs.Valued.{Looks}
use Rattle.bw_log.proofs.Walked.{rank}
use Rattle.bw_log.proofs.log.Log.value_back.Given as goal

abbrev pub invariant-back : goal.invariant-back
invariant-back g l = record {
  same : seen_by (λ b. (goal.Segment-dyn g (b.vtable, b.value)).holding b.value) l.self
      ≡ seen_by (λ b. (goal.Segment-dyn g (b.vtable, b.value)).holding b.value) l.initial.self;
  looks : Looks l.page l.key (all_placed (counted (seen_by (λ b. (goal.Segment-dyn g (b.vtable, b.value)).holding b.value) l.initial.self))) l.place;
}

abbrev pub decreases-back : goal.decreases-back
decreases-back g l = rank l.place
