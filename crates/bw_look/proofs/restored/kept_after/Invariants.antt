use Rattle.bw_look.proofs.FramesKept.{IsWalked}
use Rattle.bw_look.proofs.restored.kept_after.Given as goal

abbrev pub invariant-frames : goal.invariant-frames
invariant-frames l = IsWalked l.last l.header l.bytes l.counter l.at l.kept
