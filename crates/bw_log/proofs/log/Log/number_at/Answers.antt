use Rattle.std.proofs.Common.{◌<◌, length, arith}
use Rattle.bw_log.proofs.Asked.{box_number}
use Rattle.bw_log.proofs.log.Log.number_at.Goals as goal

pub overflow_add-result : goal.overflow_add-result
overflow_add-result g c =
    let s = c.args.self.now in
    let inside : c.args.i < length s.live.items = omega (arith, s.live.ok.0) in
    omega (arith, box_number _ _ s.number s.live.items c.args.i c.requires.holds.live.1 inside)
