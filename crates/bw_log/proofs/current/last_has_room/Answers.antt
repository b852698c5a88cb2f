use Rattle.std.proofs.Common.{◌-◌, ◌∙◌, length, nat_le, ap}
use Rattle.bw_log.proofs.Ends.{not_empty, room_told}
use Rattle.bw_log.proofs.current.last_has_room.Goals as goal

pub returns : goal.returns
returns g c =
    ap (λ n. nat_le n (c.capacity_of-capacity.result - c.len_of-used.result)) c.from.ensures
    ∙ room_told _ c.args.all.now c.args.len c.len_of-used.result c.capacity_of-capacity.result
    (not_empty (length c.args.all.now) c.is_empty.result c.is_empty.ensures c.if-is_empty.false) c.len_of-used.ensures.value c.len_of-used.ensures.within
    c.capacity_of-capacity.ensures
