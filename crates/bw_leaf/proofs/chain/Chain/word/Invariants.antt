use Rattle.std.proofs.Common.{◌≡◌, take}
use Rattle.std.specs.Prelude.{reverse}
use Rattle.bw_leaf.specs.Links.{records_of}
use Rattle.bw_leaf.specs.Words.{records_word}
use Rattle.bw_leaf.proofs.chain.Chain.word.Given as goal

abbrev pub invariant-loop-link : goal.invariant-loop-link
invariant-loop-link l = l.word ≡ records_word l.key (records_of (reverse (take l.link-index l.link-items)))
