use Rattle.std.proofs.Common.{arith}
use Rattle.bw_ring.proofs.Rings.{grouped-begins}
use Rattle.bw_ring.proofs.lane.Lane.look.Goals as goal

pub returns : goal.returns
returns c = (
  grind arith,
  grind arith,
  grouped-begins c.args.self.now.firsts.end.ahead c.is_empty.new.self.end.ahead c.args.self.now.rests.end.ahead c.is_empty-2.new.self.end.ahead
      c.is_empty.ensures.looked.2 c.is_empty-2.ensures.looked.2,
)
