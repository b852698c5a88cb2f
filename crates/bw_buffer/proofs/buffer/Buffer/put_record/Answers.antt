use Rattle.std.proofs.Common.{◌∙◌, ◌∷◌, [], List, length, ap, sym, arith}
use Rattle.std.specs.List.{flat_map}
use Rattle.bw_record.specs.declared.record.Record.{Record}
use Rattle.bw_codec.specs.Grammar.{op_bytes}
use Rattle.bw_buffer.proofs.Sizes.{with_delta}
use Rattle.bw_buffer.proofs.buffer.Buffer.put_record.Goals as goal

pub returns-then-room-length_of-clause-no_room : goal.returns-then-room-length_of-clause-no_room
returns-then-room-length_of-clause-no_room c =
    let size = with_delta c.args.self.now c.args.page c.args.back.now (c.args.item.now ∷ []) c.joining-joins.result (sym c.joining-joins.ensures) in
    let over = c.if-room-length_of.true in
    let more = c.length_of.ensures in
    let one = c.ops_length.ensures.value ∙ ap (λ (rs : List Record). length (flat_map op_bytes rs)) c.from_ref.ensures.value in
    let room = c.room.ensures in
    (λ e. (cc, omega arith), λ h. cc)

pub put_at-requires-clause-fits : goal.put_at-requires-clause-fits
put_at-requires-clause-fits c =
    let size = with_delta c.args.self.now c.args.page c.args.back.now (c.args.item.now ∷ []) c.joining-joins.result (sym c.joining-joins.ensures) in
    let within = c.if-room-length_of.false in
    let more = c.length_of.ensures in
    let one = c.ops_length.ensures.value ∙ ap (λ (rs : List Record). length (flat_map op_bytes rs)) c.from_ref.ensures.value in
    let room = c.room.ensures in
    omega arith

pub returns-clause-no_room : goal.returns-clause-no_room
returns-clause-no_room c =
    let size = with_delta c.args.self.now c.args.page c.args.back.now (c.args.item.now ∷ []) c.joining-joins.result (sym c.joining-joins.ensures) in
    let within = c.if-room-length_of.false in
    let more = c.length_of.ensures in
    let one = c.ops_length.ensures.value ∙ ap (λ (rs : List Record). length (flat_map op_bytes rs)) c.from_ref.ensures.value in
    let room = c.room.ensures in
    (λ e. cc, λ h. (let over = h.1 in absurd (omega arith)))
