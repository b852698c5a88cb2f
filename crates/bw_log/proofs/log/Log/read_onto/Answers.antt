use Rattle.bw_log.proofs.Fetched.{failed_box}
use Rattle.bw_log.proofs.log.Log.read_onto.Goals as goal

pub returns-in-Err-clause-stops : goal.returns-in-Err-clause-stops
returns-in-Err-clause-stops g c =
    failed_box _ _ c.read_from.new.all.items c.deref-in-Err.result.now c.args.at c.lease_of-lease.result c.in-Err.ensures.changed c.deref-in-Err.ensures.value
    c.lease_of-lease.ensures
