use Rattle.bw_calls.specs.Standing.{plain_in}
use Rattle.bw_calls.proofs.PlainLaws.{ok_map, told_value}
use Rattle.bw_calls.proofs.reading.value_of.Goals as goal

pub returns-in-Some-clause-value : goal.returns-in-Some-clause-value
returns-in-Some-clause-value g c =
    let head = c.in-Some.head in
    ok_map c.join.result (λ value is. told_value (plain_in c.args.home.now (λ z. (goal.Segment-dyn g z).holding z.1)) c.args.row.now head.number.bytes value.items head.len c.chunk_count.result
    c.in-Some.ensures c.chunk_count.ensures is) c.join.ensures.value
