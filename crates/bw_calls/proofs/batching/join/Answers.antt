use Rattle.bw_calls.proofs.SmallLaws.{joined_by}
use Rattle.bw_calls.proofs.batching.join.Goals as goal

pub returns-in-Some-clause-joined : goal.returns-in-Some-clause-joined
returns-in-Some-clause-joined g c = λ tables up is.
    joined_by _ tables c.args.group.now c.push.new.self c.args.change.now c.in-Some.item _ c.push.result c.is_ok.result c.in-Some.is c.in_ok-item.ensures.found c.is_ok.ensures.value
    c.push.ensures.added up is
