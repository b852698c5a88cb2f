use Rattle.std.proofs.Common.{arith}
use Rattle.bw_log.proofs.Asked.{lease_told}
use Rattle.bw_log.proofs.log.Log.spare_leases.Goals as goal

pub returns : goal.returns
returns g c =
    lease_told _ c.args.self.now.spares.items c.deref.result.now c.args.i c.lease_of.result c.deref.ensures.value (omega (arith, c.args.self.now.spares.ok.0))
    c.lease_of.ensures
