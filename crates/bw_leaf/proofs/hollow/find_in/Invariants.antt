use Rattle.std.proofs.Common.{◌≡◌, map, drop}
use Rattle.bw_leaf.specs.Seek.{seek_of, passed}
use Rattle.bw_leaf.specs.Hollow.{pair_in}
use Rattle.bw_leaf.proofs.hollow.find_in.Given as goal

abbrev pub invariant-loop-i : goal.invariant-loop-i
invariant-loop-i l = passed l.i (seek_of l.key (map (pair_in l.keys) (drop l.i l.items))) ≡ seek_of l.key (map (pair_in l.keys) l.items)
