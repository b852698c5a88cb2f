use Rattle.std.proofs.Common.{◌≡◌, take}
use Rattle.bw_leaf.specs.Hollow.{hollow}
use Rattle.bw_leaf.proofs.hollow_page.hollow_of.Given as goal

abbrev pub invariant-loop-pair : goal.invariant-loop-pair
invariant-loop-pair l = l.row ≡ hollow (take l.pair-index l.pairs)
