use Rattle.std.proofs.Common.{sym, subst}
use Rattle.bw_leaf.specs.Words.{HasOrder}
use Rattle.bw_log.proofs.Valued.{in_order, read_heard}
use Rattle.bw_log.proofs.log.Log.hear_read.Goals as goal

pub word_in_blocks-requires : goal.word_in_blocks-requires
word_in_blocks-requires g c =
    (subst HasOrder (sym (c.in_ok-block.ensures.found c.requires.there.0 c.requires.there.1)) (in_order _ c.requires.sound c.requires.there.1).1, tt)

pub returns-clause-heard : goal.returns-clause-heard
returns-clause-heard g c block x =
    read_heard c.word_in_blocks.result c.back_of-link.result c.args.page c.args.key.now c.in_ok-block.block block
    (c.in_ok-block.ensures.found block x) c.word_in_blocks.ensures c.back_of-link.ensures
