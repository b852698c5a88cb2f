use Rattle.std.proofs.Common.{◌∙◌}
use Rattle.bw_buffer.proofs.Sizes.{records_step}
use Rattle.bw_buffer.proofs.buffer.Buffer.records_behind.Goals as goal

pub loop-block-preserved : goal.loop-block-preserved
loop-block-preserved c =
    c.records_with-records.ensures
    ∙ records_step c.args.page c.args.self.now.blocks c.args.others.now c.loop-block.block-index c.block-item.result c.loop-block.records c.loop-block-test.true
    c.block-item.is c.loop-block.invariant
