use Rattle.std.proofs.Common.{ap, arith, length}
use Rattle.bw_history.proofs.Laned.{know_after}
use Rattle.bw_core.proofs.store.Core.take_from.Goals as goal

pub returns-in-Some-clause-leaves : goal.returns-in-Some-clause-leaves
returns-in-Some-clause-leaves g c = let t = c.in_ok-take_item.ensures.leaves in (t.0, ap length t.1)

pub returns-in-Some-clause-takes : goal.returns-in-Some-clause-takes
returns-in-Some-clause-takes g c =
    let t = c.in_ok-take_item.ensures.takes in
    record { sound = t.sound; count = t.count; dry = tt; few = omega arith; knows = know_after _ _ _ t.known; noted = t.noted }
