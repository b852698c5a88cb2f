use Rattle.bw_home.specs.Maps.{maps_of}
use Rattle.bw_calls.specs.Standing.{plain_in}
use Rattle.bw_calls.specs.Walks.{told}
use Rattle.bw_calls.proofs.PlainLaws.{ok_map}
use Rattle.bw_calls.proofs.WalkLaws.{none_by, pair_is}
use Rattle.bw_calls.proofs.walking.pair_from.Goals as goal

pub returns-in-None-clause-pair : goal.returns-in-None-clause-pair
returns-in-None-clause-pair g c = λ lawful from at. none_by (plain_in c.args.home.now (λ z. (goal.Segment-dyn g z).holding z.1)) c.args.table.bytes from _ c.in-None.is (c.in_ok-row_from.ensures.row from at)

pub returns-in-Some-clause-pair : goal.returns-in-Some-clause-pair
returns-in-Some-clause-pair g c = λ lawful from at.
    let m = (maps_of c.args.home.now (λ z. (goal.Segment-dyn g z).holding z.1)).put in
    ok_map c.valued.result (λ pair value. pair_is m _ c.args.table.bytes from c.in-Some.key c.in-Some.row _ (told pair) c.in-Some.is (c.in_ok-row_from.ensures.row from at)
    c.row_from.ensures.same value) c.valued.ensures.value

pub returns-in-Some-clause-leaves : goal.returns-in-Some-clause-leaves
returns-in-Some-clause-leaves g c = λ ts stops. c.valued.ensures.leaves ts (c.row_from.ensures.leaves ts stops)
