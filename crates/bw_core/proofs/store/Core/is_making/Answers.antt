use Rattle.std.proofs.Common.{arith}
use Rattle.bw_buffer.proofs.Holding.{got}
use Rattle.bw_core.specs.Views.{kept_by}
use Rattle.bw_core.proofs.EvictedPages.{stands_elsewhere}
use Rattle.bw_core.proofs.store.Core.is_making.Goals as goal

pub returns : goal.returns
returns g c =
    let s = kept_by c.args.self.now (λ z. (goal.Segment-dyn g z).holding z.1) in
    let count = c.requires.sound.grown.count in
    let inside = c.requires.inside in
    stands_elsewhere s c.requires.sound c.args.page c.index.result.now c.frame.result inside.0
    (got c.args.self.now.pages.newest.items _ c.index.result.now (omega arith) c.index.ensures) c.frame.ensures.value
