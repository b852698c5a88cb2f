use Rattle.std.proofs.Common.{◌∷◌, [], sym, arith}
use Rattle.std.proofs.lemmas.Bool.{leb-true, le-leb}
use Rattle.bw_buffer.proofs.Sizes.{one_length, with_delta}
use Rattle.bw_buffer.proofs.buffer.Buffer.has_room_for.Goals as goal

pub returns : goal.returns
returns c = λ back.
    let size = with_delta c.args.self.now c.args.page back (c.args.item.now ∷ []) c.joining.result (sym c.joining.ensures) in
    let more = c.length_of.ensures in
    let one = c.record_length.ensures.value in
    let whole = one_length c.args.item.now in
    let room = c.room.ensures in
    (λ yes. let le = leb-true c.length_of.result c.room.result yes in omega arith, λ fits. le-leb c.length_of.result c.room.result (omega arith))
