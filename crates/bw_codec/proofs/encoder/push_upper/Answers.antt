use Rattle.std.proofs.Common.{◌++◌, arith, length-append}
use Rattle.bw_codec.specs.Bytes.{number_bytes, text}
use Rattle.bw_codec.specs.Grammar.{pairs_bytes}
use Rattle.bw_codec.proofs.FrontFormat.{length-number}
use Rattle.bw_codec.proofs.Adding.{room_after}
use Rattle.bw_codec.proofs.encoder.push_upper.Goals as goal

pub push_four-requires : goal.push_four-requires
push_four-requires c =
    let leaf = c.args.upper.now in
    let text_adds = rw c.as_slice.ensures at c.push_text.ensures in
    let room = room_after c.args.out.now c.push_text.new.out (text leaf.low) (number_bytes 4 leaf.page ++ pairs_bytes leaf.pairs) c.requires.room text_adds in
    omega (arith, room, length-number 4 leaf.page, length-append (number_bytes 4 leaf.page) (pairs_bytes leaf.pairs))
