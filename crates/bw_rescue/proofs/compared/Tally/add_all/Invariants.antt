use Rattle.std.specs.Prelude.{List, ◌++◌, take}
use Rattle.bw_rescue.specs.Tallied.{Pair, IsTallyOf}
use Rattle.bw_rescue.proofs.compared.Tally.add_all.Given as goal

abbrev pub invariant-loop-pair : goal.invariant-loop-pair
invariant-loop-pair l = (before : List Pair) → IsTallyOf before l.fn.self → IsTallyOf (before ++ take l.pair-index l.pairs) l.self
