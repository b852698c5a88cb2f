-- So far the store was tended by the plan, and nothing was refused.

use Rattle.std.proofs.Common.{◌≡◌}
use Rattle.bw_store.specs.Views.{kept_by, IsSound}
use Rattle.bw_drive.specs.Pace.{Paces}
use Rattle.bw_drive.specs.Ran.{Runs}
use Rattle.bw_drive.proofs.store_thread.tend.Given as goal

abbrev pub invariant-turns : goal.invariant-turns
invariant-turns g l = record {
  sound : IsSound l.store (λ z. (goal.Segment-dyn g z).holding z.1);
  runs : Runs l.plan.clean_at (kept_by l.fn.store (λ z. (goal.Segment-dyn g z).holding z.1))
      (kept_by l.store (λ z. (goal.Segment-dyn g z).holding z.1));
  counted : l.pace.turns ≡ l.turn;
  paced : Paces l.plan l.turn (kept_by l.fn.store (λ z. (goal.Segment-dyn g z).holding z.1))
      (kept_by l.store (λ z. (goal.Segment-dyn g z).holding z.1));
}
