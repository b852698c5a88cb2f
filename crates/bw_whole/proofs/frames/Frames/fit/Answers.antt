use Rattle.std.proofs.Common.{◌+◌, ◌≤◌, ap, arith}
use Rattle.std.proofs.lemmas.Result.{on_ok_weaker}
use Rattle.bw_whole.specs.Framing.{Framed}
use Rattle.bw_whole.proofs.Fitting.{fits_empty}
use Rattle.bw_whole.proofs.frames.Frames.fit.Goals as goal

pub returns-clause-fits : goal.returns-clause-fits
returns-clause-fits c =
    let w : Framed = c.args.self.now in
    let range : 65536 ≤ w.filling.limit =
    (let v = ap (λ (x : Framed). x.filling.limit) c.self.view_is in omega arith) in
    let fits = fits_empty c.largest_blocks.ensures (w.filling.frame + 1) w.filling.limit c.args.page.now c.requires range in
    on_ok_weaker c.end_frame.result (λ is. rw is fits) c.end_frame.ensures.ok
