-- A group more was put, and counted.

use Rattle.std.proofs.Common.{◌+◌, ap, ◌∙◌, arith}
use Rattle.bw_ring.specs.Ends.{accepted}
use Rattle.bw_drive.proofs.Scripts.{group_put}
use Rattle.bw_drive.proofs.writers.put_script.Goals as goal

pub groups-preserved : goal.groups-preserved
groups-preserved g c =
    let put = group_put (accepted c.args.feed.now) (accepted c.groups.feed) (accepted c.is_put-passed.new.feed) c.args.script.now c.groups.index
    c.groups.done c.index-script-index.result c.groups-test.true c.index-script-index.is c.groups.invariant.1 c.groups.invariant.2 (grind arith) in
    let count = c.in-Some.ensures.1 ∙ ap (λ n. c.groups.done + n) c.len.ensures.value in
    (grind arith, rw count put.0, count ∙ put.1, rw count put.2)
