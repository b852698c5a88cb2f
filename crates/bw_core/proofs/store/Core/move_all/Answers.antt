use Rattle.bw_care.specs.Moving as care
use Rattle.bw_core.specs.Views.{kept_by}
use Rattle.bw_core.proofs.CleanedMore.{cleans_of, cleaned_wrote, stopped_wrote}
use Rattle.bw_core.proofs.Noting.{begins, given_noted, may_note, stopped_noted}
use Rattle.bw_core.proofs.store.Core.move_all.Goals as goal

pub note_moved-requires : goal.note_moved-requires
note_moved-requires g c = (let e = c.clean-result.ensures in may_note _ _ _ (begins c.requires.ready) _ c.next_frame-first.ensures
    (cleans_of (kept_by c.args.self.now (λ z. (goal.Segment-dyn g z).holding z.1)) _ c.clean-result.result (begins c.requires.ready) c.requires.two
    e.sound e.cleaned e.refused e.stands) _ _ c.requires.ready.room)

pub returns-in-Ok : goal.returns-in-Ok
returns-in-Ok g c =
    let done = given_noted _ _ _ (begins c.requires.ready) _ c.next_frame-first.ensures _ _ c.note_moved.ensures.noted _
    (cleaned_wrote (kept_by c.args.self.now (λ z. (goal.Segment-dyn g z).holding z.1)) c.in-Ok.cleaned _ (begins c.requires.ready)
    c.clean-result.ensures.sound c.in-Ok.ensures.cleaned c.clean-result.ensures.stands)
    (care.IsCleaned (kept_by c.args.self.now (λ z. (goal.Segment-dyn g z).holding z.1)).log c.in-Ok.cleaned) c.in-Ok.ensures.cleaned in
    record { quiet = record { sound = done.0; noted = c.note_moved.ensures.stays }; leaves = done.1 }

pub returns-in-Err : goal.returns-in-Err
returns-in-Err g c =
    let wrote = stopped_wrote (kept_by c.args.self.now (λ z. (goal.Segment-dyn g z).holding z.1)) c.in-Err.fault _ (begins c.requires.ready)
    c.requires.two c.clean-result.ensures.sound c.in-Err.ensures.refused c.clean-result.ensures.stands in
    let stop = stopped_noted _ _ _ (begins c.requires.ready) _ c.next_frame-first.ensures _ _ c.note_moved.ensures.noted wrote
    (care.Refuses c.in-Err.fault (kept_by c.args.self.now (λ z. (goal.Segment-dyn g z).holding z.1)).log) c.in-Err.ensures.refused in
    record { quiet = record { sound = stop.0; noted = c.note_moved.ensures.stays }; leaves = (c.in-Err.fault, c.from.ensures, stop.1) }
