use Rattle.std.proofs.Common.{◌≡◌, take}
use Rattle.bw_leaf.specs.Words.{blocks_word}
use Rattle.bw_leaf.proofs.words.word_in_blocks.Given as goal

abbrev pub invariant-loop-block : goal.invariant-loop-block
invariant-loop-block l = l.word ≡ blocks_word l.page l.key (take l.block-index l.blocks)
