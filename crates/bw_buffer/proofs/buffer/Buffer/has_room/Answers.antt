use Rattle.std.proofs.Common.{arith}
use Rattle.bw_buffer.proofs.Several.{room_over}
use Rattle.bw_buffer.proofs.buffer.Buffer.has_room.Goals as goal

pub returns-then-left-more : goal.returns-then-left-more
returns-then-left-more c =
    let over = room_over c.args.self.now c.args.blocks.now c.loop-at.at c.loop-at.left c.length_behind-more.result c.index-blocks-at.result
    c.loop-at-test.true c.index-blocks-at.is c.loop-at.invariant c.length_behind-more.ensures c.if-left-more.true in
    (λ t. absurd cc, λ fits. absurd (omega arith))
