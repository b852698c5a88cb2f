use Rattle.std.proofs.Common.{[], ◌∷◌, ◌++◌, length, arith, subst, sym}
use Rattle.bw_codec.specs.Bytes.{number_bytes}
use Rattle.bw_codec.specs.Grammar.{place_bytes, upper_bytes, block_bytes}
use Rattle.bw_codec.specs.Writing.{HasRoom, Adds}
use Rattle.bw_record.specs.declared.block.Block.{Block}
use Rattle.bw_codec.proofs.Adding.{adds_then}
use Rattle.bw_codec.proofs.FrontFormat.{length-number}
use Rattle.bw_codec.proofs.Lengths.{length-delta, length-base, length-split}
use Rattle.bw_codec.proofs.encoder.write_block.Goals as goal

pub push_four-requires : goal.push_four-requires
push_four-requires c =
    let room = subst (λ (b : Block). HasRoom c.args.out.now (length (block_bytes b))) c.in-Delta.is c.requires.room in
    omega (arith, room, length-delta c.in-Delta.page c.in-Delta.back c.in-Delta.ops, c.push.ensures.len, c.push.ensures.capacity)

pub push_place-requires : goal.push_place-requires
push_place-requires c =
    let room = subst (λ (b : Block). HasRoom c.args.out.now (length (block_bytes b))) c.in-Delta.is c.requires.room in
    let tagged = c.push.ensures in
    let numbered = c.push_four.ensures in
    omega (
      arith,
      room,
      length-delta c.in-Delta.page c.in-Delta.back c.in-Delta.ops,
      length-number 4 c.in-Delta.page,
      tagged.len,
      tagged.capacity,
      numbered.len,
      numbered.capacity,
    )

pub push_four-requires-in-Base : goal.push_four-requires-in-Base
push_four-requires-in-Base c =
    let room = subst (λ (b : Block). HasRoom c.args.out.now (length (block_bytes b))) c.in-Base.is c.requires.room in
    omega (arith, room, length-base c.in-Base.leaf, c.push-in-Base.ensures.len, c.push-in-Base.ensures.capacity)

pub push_place-requires-in-Split : goal.push_place-requires-in-Split
push_place-requires-in-Split c =
    let room = subst (λ (b : Block). HasRoom c.args.out.now (length (block_bytes b))) c.in-Split.is c.requires.room in
    let tagged = c.push-in-Split.ensures in
    let numbered = c.push_four-in-Split.ensures in
    omega (
      arith,
      room,
      length-split c.in-Split.page c.in-Split.back c.in-Split.upper,
      length-number 4 c.in-Split.page,
      tagged.len,
      tagged.capacity,
      numbered.len,
      numbered.capacity,
    )

pub returns-in-Split : goal.returns-in-Split
returns-in-Split c =
    let numbers = number_bytes 4 c.in-Split.page in
    let back = place_bytes c.in-Split.back in
    let upper = upper_bytes c.in-Split.upper in
    let tail = adds_then _ _ _ back upper c.push_place-in-Split.ensures c.push_upper.ensures in
    let numbered = adds_then _ _ _ numbers (back ++ upper) c.push_four-in-Split.ensures tail in
    let split = adds_then _ _ _ (3 ∷ []) (numbers ++ (back ++ upper)) c.push-in-Split.ensures numbered in
    subst (λ (b : Block). Adds c.args.out.now c.push_upper.new.out (block_bytes b)) (sym c.in-Split.is) split
