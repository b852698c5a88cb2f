use Rattle.std.proofs.Common.{arith}
use Rattle.bw_core.proofs.reopen.ends_of.Goals as goal

pub renew-requires-clause-there : goal.renew-requires-clause-there
renew-requires-clause-there g c = λ p from to. (let count = c.in_ok-newest.ensures in c.requires.there p from (omega arith))
