use Rattle.std.proofs.Common.{refl}
use Rattle.bw_log.proofs.log.Log.refusal.Goals as goal

pub returns-then-self : goal.returns-then-self
returns-then-self g c = rw c.if-self.true refl
