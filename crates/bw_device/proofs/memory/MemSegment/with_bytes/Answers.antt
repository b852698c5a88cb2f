use Rattle.std.proofs.Common.{refl}
use Rattle.bw_device.proofs.memory.MemSegment.with_bytes.Goals as goal

pub returns-in-Err-clause-lease : goal.returns-in-Err-clause-lease
returns-in-Err-clause-lease c = refl
