use Rattle.std.proofs.Common.{◌≡◌, take}
use Rattle.bw_leaf.specs.Hollow.{hollow}
use Rattle.bw_leaf.proofs.hollow_page.draft_of.Given as goal

abbrev pub invariant-loop-at : goal.invariant-loop-at
invariant-loop-at l = hollow l.row.items ≡ hollow (take l.at l.pairs)
