use Rattle.std.proofs.Common.{◌≡◌, length, rules}
use Rattle.bw_home.specs.Maps.{maps_of}
use Rattle.bw_calls.proofs.WalkLaws.{row_none, row_other, row_some}
use Rattle.bw_calls.proofs.walking.row_from.Goals as goal

pub returns-in-None-clause-row : goal.returns-in-None-clause-row
returns-in-None-clause-row g c = λ from at. row_none (maps_of c.args.home.now (λ z. (goal.Segment-dyn g z).holding z.1)).put c.args.table.bytes from c.args.place.now _ c.in-None.is c.in_ok-from.ensures.value at

pub returns-in-Some-2-clause-row : goal.returns-in-Some-2-clause-row
returns-in-Some-2-clause-row g c = λ from at.
    row_some _ c.args.table.bytes from c.args.place.now c.in-Some.key c.in-Some.row c.as_slice.result.now c.in-Some-2.key _ _ c.in-Some.is c.in_ok-from.ensures.value at
    c.as_slice.ensures.value c.in-Some-2.is c.in_ok-key-in-Some.ensures.row

pub returns-in-None-2-clause-row : goal.returns-in-None-2-clause-row
returns-in-None-2-clause-row g c = λ from at.
    let wide : length c.args.table.bytes ≡ 2 = search rules in
    row_other _ c.args.table.bytes from c.args.place.now c.in-Some.key c.in-Some.row c.as_slice.result.now _ _ wide c.in-Some.is c.in_ok-from.ensures.value at
    c.as_slice.ensures.value c.in-None-2.is c.in_ok-key-in-Some.ensures.row
