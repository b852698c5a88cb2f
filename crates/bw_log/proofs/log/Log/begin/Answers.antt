use Rattle.std.proofs.Common.{ap, length, refl}
use Rattle.bw_log.proofs.Torn.{begin_told}
use Rattle.bw_log.proofs.log.Log.begin.Goals as goal

pub returns-in-Err-clause-outcome : goal.returns-in-Err-clause-outcome
returns-in-Err-clause-outcome g c =
    let told = rw c.deref.ensures.value at c.lease_of-lease.ensures in
    begin_told _ _ c.args.self.now.live.items _ _ (length c.as_slice.result.now) c.header_cells-header.result c.lease_of-lease.result refl
    (ap length c.as_slice.ensures.value) refl c.header_cells-header.ensures c.in-Err.ensures.changed told
