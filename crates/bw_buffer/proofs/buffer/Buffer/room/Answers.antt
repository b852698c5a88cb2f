use Rattle.std.proofs.Common.{arith}
use Rattle.bw_buffer.proofs.buffer.Buffer.room.Goals as goal

pub returns : goal.returns
returns c = rw (← c.self.view_is) (let size = c.self.invariant.size in let fits = c.self.invariant.fits in omega arith)
