use Rattle.std.proofs.Common.{◌≡◌, ◌<◌, ◌∙◌, length, ap, sym, arith, refl}
use Rattle.bw_page.proofs.Seating.{evicted_there, count_is}
use Rattle.bw_page.proofs.seats.Seats.meet.Goals as goal

pub returns-in-Idle-clause-here : goal.returns-in-Idle-clause-here
returns-in-Idle-clause-here c =
    let at = c.in-Some.at in
    let long = count_is c.self.inside c.args.self.now c.self.view_is in
    let list : length c.as_slice.result.now ≡ length c.self.inside.seats.items = ap length c.as_slice.ensures.value in
    let below = c.if-at-as_slice.false in
    let within : at < length c.args.self.now.items = omega arith in
    sym (evicted_there c.self.inside c.args.self.now c.self.view_is at c.index_mut.result.now within c.index_mut.ensures.value)
    ∙ c.in-Idle.ensures.here refl
