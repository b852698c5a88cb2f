use Rattle.std.proofs.Common.{◌≡◌, drop}
use Rattle.bw_leaf.specs.Seek.{seek_of, passed}
use Rattle.bw_leaf.proofs.changes.find_whole.Given as goal

abbrev pub invariant-loop-i : goal.invariant-loop-i
invariant-loop-i l = passed l.i (seek_of l.key (drop l.i l.pairs)) ≡ seek_of l.key l.pairs
