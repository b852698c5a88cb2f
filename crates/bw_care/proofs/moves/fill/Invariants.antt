use Rattle.std.proofs.Common.{◌≡◌, take}
use Rattle.bw_care.specs.Moving.{AreBases}
use Rattle.bw_care.specs.Views.{seen}
use Rattle.bw_care.proofs.moves.fill.Given as goal

abbrev pub invariant-loop-at : goal.invariant-loop-at
invariant-loop-at g l = record {
  same : seen l.log (λ b. (goal.Segment-dyn g b).holding b.1) ≡ seen l.initial.log (λ b. (goal.Segment-dyn g b).holding b.1);
  kept : l.buffer ≡ record l.initial.buffer { blocks = l.buffer.blocks };
  holds : AreBases (seen l.initial.log (λ b. (goal.Segment-dyn g b).holding b.1)) l.buffer.blocks (take l.at l.pages);
}
