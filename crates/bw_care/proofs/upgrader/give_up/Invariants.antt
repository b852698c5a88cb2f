use Rattle.std.proofs.Common.{◌≤◌, ◌-◌}
use Rattle.bw_care.specs.Upgrading.{GivenInTurn}
use Rattle.bw_care.specs.Views.{seen, IsSound}
use Rattle.bw_care.proofs.UpgradeSteps.{IsGoing}
use Rattle.bw_care.proofs.upgrader.give_up.Given as goal

abbrev pub invariant-loop-given : goal.invariant-loop-given
invariant-loop-given g l = record {
  within : l.given ≤ l.count;
  sound : IsSound l.log (λ b. (goal.Segment-dyn g b).holding b.1);
  going : IsGoing l.given (seen l.initial.log (λ b. (goal.Segment-dyn g b).holding b.1)) (seen l.log (λ b. (goal.Segment-dyn g b).holding b.1));
  in_turn : GivenInTurn l.given (seen l.initial.log (λ b. (goal.Segment-dyn g b).holding b.1));
}

abbrev pub decreases-loop-given : goal.decreases-loop-given
decreases-loop-given g l = l.count - l.given
