use Rattle.std.proofs.Common.{◌≡◌, ◌≤◌, ℕ, false, ◌-◌, length, take, drop}
use Rattle.bw_care.specs.Moving.{IsNextBehind, MovedBehind}
use Rattle.bw_care.specs.Views.{seen, IsSound}
use Rattle.bw_care.proofs.moves.move_all.Given as goal

abbrev pub invariant-loop-at : goal.invariant-loop-at
invariant-loop-at g l = record {
  inside : l.at ≤ length l.pages;
  few : l.frames ≤ l.at;
  sound : IsSound l.log (λ b. (goal.Segment-dyn g b).holding b.1);
  works : (seen l.log (λ b. (goal.Segment-dyn g b).holding b.1)).is_failed ≡ false;
  moved : (last : ℕ) → IsNextBehind last (seen l.initial.log (λ b. (goal.Segment-dyn g b).holding b.1))
      → MovedBehind last (seen l.initial.log (λ b. (goal.Segment-dyn g b).holding b.1)) (seen l.log (λ b. (goal.Segment-dyn g b).holding b.1))
      (take l.at l.pages)
      (drop l.at l.pages) l.frames;
}

abbrev pub decreases-loop-at : goal.decreases-loop-at
decreases-loop-at g l = length l.pages - l.at
