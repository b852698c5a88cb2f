use Rattle.std.proofs.Common.{arith, sym, ◌∙◌, ◌≡◌, length}
use Rattle.bw_ring.specs.Rings.{leading}
use Rattle.bw_ring.proofs.Rings.{grouped-begins, rest-whole, all-grouped, all-given}
use Rattle.bw_ring.proofs.lane.Lane.rest_beside.Goals as goal

pub returns-clause-lane : goal.returns-clause-lane
returns-clause-lane c = (
  grind arith,
  grind arith,
  grouped-begins c.args.self.now.firsts.end.ahead c.slots_beside-groups.new.self.end.ahead c.args.self.now.rests.end.ahead c.slots_beside.new.self.end.ahead
      c.slots_beside-groups.ensures.looked.2 c.slots_beside.ensures.looked.2,
)

pub returns-clause-value : goal.returns-clause-value
returns-clause-value c =
    let past : leading c.slots_beside-groups.new.self.end.past ≡ length c.slots_beside.new.self.end.past = grind arith in
    let sent : leading c.slots_beside-groups.new.producer.end.past ≡ length c.slots_beside.new.producer.end.past = grind arith in
    let whole = rest-whole c.slots_beside-groups.new.self.end.past c.slots_beside-groups.new.self.end.ahead c.slots_beside-groups.new.producer.end.past
    c.slots_beside.new.self.end.past c.slots_beside.new.self.end.ahead c.slots_beside.new.producer.end.past past sent
    c.slots_beside-groups.ensures.fifo c.slots_beside.ensures.fifo in
    c.slots_beside-groups.ensures.value ∙ sym (all-grouped c.slots_beside-groups.new.self.end.ahead c.slots_beside.new.self.end.ahead whole)

pub returns-clause-whole : goal.returns-clause-whole
returns-clause-whole c =
    let past : leading c.slots_beside-groups.new.self.end.past ≡ length c.slots_beside.new.self.end.past = grind arith in
    all-given c.slots_beside-groups.new.self.end.past c.slots_beside-groups.new.self.end.ahead c.slots_beside-groups.new.producer.end.past
    c.slots_beside.new.self.end.past c.slots_beside.new.self.end.ahead c.slots_beside.new.producer.end.past past c.slots_beside-groups.ensures.fifo
    c.slots_beside.ensures.fifo
