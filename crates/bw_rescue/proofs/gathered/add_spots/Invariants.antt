use Rattle.std.proofs.Common.{◌≡◌, ℕ, take}
use Rattle.std.specs.BTreeMap as tree
use Rattle.std.specs.Ordering.{nat_cmp}
use Rattle.bw_rescue.specs.Gathered.{first_of, or_at}
use Rattle.bw_rescue.proofs.gathered.add_spots.Given as goal

abbrev pub invariant-loop-spot : goal.invariant-loop-spot
invariant-loop-spot l = (number : ℕ) → tree.get nat_cmp l.frames number ≡ or_at (tree.get nat_cmp l.fn.frames number) l.segment (first_of number (take l.spot-index l.held.spots.items))
