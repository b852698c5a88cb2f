use Rattle.std.proofs.Common.{◌≡◌, true}
use Rattle.bw_buffer.proofs.Several.{put_fits}
use Rattle.bw_buffer.proofs.buffer.Buffer.put_all.Goals as goal

pub put-requires-clause-fits : goal.put-requires-clause-fits
put-requires-clause-fits c =
    let yes : c.has_room.result ≡ true = cc in
    put_fits c.args.self.now c.loop-block.self c.args.blocks.now c.loop-block.block-index c.block-item.result c.loop-block-test.true c.block-item.is
    c.loop-block.invariant (c.has_room.ensures.0 yes)
