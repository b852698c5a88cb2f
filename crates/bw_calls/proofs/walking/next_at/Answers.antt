use Rattle.bw_home.specs.Maps.{maps_of}
use Rattle.bw_calls.specs.Walks.{told}
use Rattle.bw_calls.proofs.PlainLaws.{lawful_moved, number_told, ok_map}
use Rattle.bw_calls.proofs.WalkLaws.{in_tables}
use Rattle.bw_calls.proofs.walking.next_at.Goals as goal

pub returns-clause-pair : goal.returns-clause-pair
returns-clause-pair g c = λ lawful.
    let m = (maps_of c.args.home.now (λ z. (goal.Segment-dyn g z).holding z.1)).put in
    let number = number_told _ c.in-Some.table m c.args.name.now c.in-Some.is c.in_ok-table.ensures.number in
    let same = c.number_of.ensures.same in
    ok_map c.pair_from.result (λ pair next. in_tables m _ c.args.name.now c.in-Some.table.bytes c.args.key.now (told pair) lawful same number next)
    (c.pair_from.ensures.pair (lawful_moved _ _ lawful same) c.args.key.now c.row_key.ensures)

pub returns-clause-leaves : goal.returns-clause-leaves
returns-clause-leaves g c = λ ts stops. c.pair_from.ensures.leaves ts (c.number_of.ensures.leaves ts stops)
