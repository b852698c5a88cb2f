use Rattle.std.proofs.Common.{arith, ap, length}
use Rattle.bw_lows.proofs.PagesBeside.{length_now}
use Rattle.bw_lows.proofs.block.Block.len.Goals as goal

pub returns : goal.returns
returns c = omega (arith, ap length c.as_slice.ensures.value, length_now _ _ _ c.self.invariant.long c.self.view_is)
