use Rattle.std.proofs.Common.{◌≡◌, take}
use Rattle.std.specs.Prelude.{reverse}
use Rattle.bw_leaf.specs.Links.{told}
use Rattle.bw_leaf.proofs.chain.Chain.content.Given as goal

abbrev pub invariant-loop-link : goal.invariant-loop-link
invariant-loop-link l = l.leaf ≡ told (reverse (take l.link-index l.link-items)) l.initial.leaf
