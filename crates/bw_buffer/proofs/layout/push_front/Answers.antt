use Rattle.std.proofs.Common.{arith, subst, length}
use Rattle.bw_codec.specs.Writing.{HasRoom}
use Rattle.bw_codec.proofs.Lengths.{length-front}
use Rattle.bw_buffer.specs.Rows.{front_by}
use Rattle.bw_buffer.specs.declared.mark.Mark.{Mark}
use Rattle.bw_buffer.proofs.layout.push_front.Goals as goal

pub write_delta_head-requires : goal.write_delta_head-requires
write_delta_head-requires c =
    let room = subst (λ (m : Mark). HasRoom c.args.bytes.now (length (front_by m c.args.row.now.back c.args.row.now.ops))) c.in-Changes.is c.requires.room in
    omega (arith, room, length-front c.in-Changes.page c.args.row.now.back c.args.row.now.ops)
