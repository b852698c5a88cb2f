use Rattle.std.proofs.Common.{arith, length, length-append}
use Rattle.std.specs.List.{flat_map}
use Rattle.bw_codec.specs.Bytes.{number_bytes}
use Rattle.bw_codec.specs.Grammar.{pair_bytes}
use Rattle.bw_codec.proofs.FrontFormat.{length-number}
use Rattle.bw_codec.proofs.Adding.{room_after, room_for_next}
use Rattle.bw_codec.proofs.encoder.push_pairs.Goals as goal

pub push_two-requires : goal.push_two-requires
push_two-requires c =
    omega (
      arith,
      c.requires.room,
      length-number 2 (length c.args.pairs.now),
      length-append (number_bytes 2 (length c.args.pairs.now)) (flat_map pair_bytes c.args.pairs.now),
    )

pub push_pair-requires : goal.push_pair-requires
push_pair-requires c =
    let room = room_after c.args.out.now c.push_two.new.out (number_bytes 2 (length c.args.pairs.now)) (flat_map pair_bytes c.args.pairs.now) c.requires.room
    c.push_two.ensures in
    room_for_next pair_bytes c.push_two.new.out c.loop-pair.out c.args.pairs.now c.loop-pair.pair-index c.pair-item.result c.loop-pair-test.true
    c.pair-item.is room c.loop-pair.invariant
