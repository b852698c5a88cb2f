use Rattle.std.proofs.Common.{◌≡◌, ℕ, length, take}
use Rattle.std.specs.BTreeMap as tree
use Rattle.std.specs.Ordering.{nat_cmp}
use Rattle.bw_rescue.specs.Gathered.{place_of}
use Rattle.bw_rescue.proofs.gathered.frames_of.Given as goal

abbrev pub invariant-loop-segment : goal.invariant-loop-segment
invariant-loop-segment l = record {
  long : l.segment-end ≡ length l.held;
  noted : (number : ℕ) → tree.get nat_cmp l.frames number ≡ place_of number 0 (take l.segment l.held);
}
