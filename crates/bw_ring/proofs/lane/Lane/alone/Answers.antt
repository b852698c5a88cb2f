use Rattle.bw_ring.proofs.Rings.{alone-shown}
use Rattle.bw_ring.proofs.lane.Lane.alone.Goals as goal

pub returns-in-Alone : goal.returns-in-Alone
returns-in-Alone c = alone-shown c.peek_known.result.now c.in-Alone.item _ _ c.peek_known.ensures c.in-Alone.is
