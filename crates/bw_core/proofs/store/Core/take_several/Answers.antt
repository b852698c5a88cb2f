use Rattle.std.proofs.Common.{ap, arith, length, sym, ◌∙◌}
use Rattle.bw_history.proofs.Laned.{know_after}
use Rattle.bw_core.proofs.store.Core.take_several.Goals as goal

pub returns-clause-leaves : goal.returns-clause-leaves
returns-clause-leaves g c = let t = c.in_ok-take_group.ensures.leaves in (t.0, ap length t.1 ∙ sym c.len-records.ensures.value)

pub returns-clause-takes : goal.returns-clause-takes
returns-clause-takes g c =
    let t = c.in_ok-take_group.ensures.takes in
    let took = c.in_ok-take_group.ensures.leaves in
    let most = took.0.few.1 in
    let same = ap length took.1 in
    let many = c.len-records.ensures.value in
    record { sound = t.sound; count = t.count; dry = tt; few = omega arith; knows = know_after _ _ _ t.known; noted = t.noted }
