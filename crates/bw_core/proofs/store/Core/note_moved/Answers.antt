use Rattle.std.proofs.Common.{◌∙◌, ap, refl, sym}
use Rattle.bw_making.specs.Overlay.{is_made}
use Rattle.bw_core.proofs.Forgetting.{gone_moved}
use Rattle.bw_history.proofs.Grouped.{whole_many}
use Rattle.bw_core.proofs.store.Core.note_moved.Goals as goal

pub invariant_of-self-2 : goal.invariant_of-self-2
invariant_of-self-2 g c =
    let was = c.args.self.now in
    let whole = whole_many was.seals.cuts.items _ was.intake.history.items c.frames_between-frames.result _ was.whole
    was.intake.grouped c.len-end.ensures c.push_many.ensures in
    let forgotten = gone_moved was.seals.cuts.items _ c.frames_between-frames.result c.len-end.result was.seals.durable _ _
    c.requires.cut.0 (c.requires.cut.1 ∙ sym c.len-end.ensures) c.push_many.ensures refl was.forgotten in
    ((λ p evicted. ap (is_made p) c.begin_at.ensures.empty, tt), (whole, (forgotten, (was.began, tt))))
