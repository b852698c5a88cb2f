use Rattle.bw_log.proofs.Asked.{version_told}
use Rattle.bw_log.proofs.log.Log.live_version.Goals as goal

pub returns : goal.returns
returns g c =
    let s = c.args.self.now in
    let number = c.in_ok-number.ensures.1 in
    version_told _ _ s.number s.live.items c.args.i c.version_at.result c.requires.holds.live.1 c.in_ok-number.ensures.0 (rw number at c.version_at.ensures)
