use Rattle.std.proofs.Common.{◌≡◌, take}
use Rattle.bw_leaf.specs.Words.{records_word}
use Rattle.bw_leaf.proofs.words.word_in_records.Given as goal

abbrev pub invariant-loop-item : goal.invariant-loop-item
invariant-loop-item l = l.word ≡ records_word l.key (take l.item-index l.records)
