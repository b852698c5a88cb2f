use Rattle.std.proofs.Common.{◌≡◌, ◌≤◌, take}
use Rattle.std.specs.Prelude.{reverse}
use Rattle.bw_leaf.specs.Links.{count_deltas}
use Rattle.bw_leaf.proofs.chain.Chain.deltas.Given as goal

abbrev pub invariant-loop-link : goal.invariant-loop-link
invariant-loop-link l = (l.count ≡ count_deltas (reverse (take l.link-index l.link-items))) × (l.count ≤ l.link-index)
