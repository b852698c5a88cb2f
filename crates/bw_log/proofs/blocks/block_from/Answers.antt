use Rattle.bw_log.proofs.BlocksRead.{rest_all}
use Rattle.bw_log.proofs.blocks.block_from.Goals as goal

pub block_of-requires : goal.block_of-requires
block_of-requires c = rw (rest_all c.args.start c.args.bytes.now) c.requires.spelled

pub returns-clause-found : goal.returns-clause-found
returns-clause-found c block s = c.block_of.ensures.found block (rw (rest_all c.args.start c.args.bytes.now) s)
