use Rattle.std.proofs.Common.{ap, ◌∙◌, arith}
use Rattle.bw_care.specs.Views.{seen}
use Rattle.bw_care.specs.Tallies.{up}
use Rattle.bw_care.proofs.Tallied.{bytes_all}
use Rattle.bw_care.proofs.lengths.live_bytes.Goals as goal

pub returns : goal.returns
returns g c =
    let live = (seen c.args.log.now (λ b. (goal.Segment-dyn g b).holding b.1)).live in
    let count = c.live.ensures in
    c.bytes_upto.ensures ∙ ap (up 0) (bytes_all live c.live.result (omega arith))
