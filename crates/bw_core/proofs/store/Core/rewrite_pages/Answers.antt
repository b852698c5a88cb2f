use Rattle.std.proofs.Common.{◌≤◌, [], length, arith}
use Rattle.bw_log.specs.Contents as logs
use Rattle.bw_care.specs.Moving as care
use Rattle.bw_care.specs.Rewriting as rewrites
use Rattle.bw_core.specs.Views.{kept_by}
use Rattle.bw_core.proofs.CleanedMore.{Begins, moved_wrote, refused_wrote}
use Rattle.bw_core.proofs.Noting.{may_note, moved_noted, stopped_noted}
use Rattle.bw_core.proofs.RewrittenMore.{rewrites_of, held_of}
use Rattle.bw_core.proofs.store.Core.rewrite_pages.Goals as goal

pub note_moved-requires : goal.note_moved-requires
note_moved-requires g c =
    let r = c.requires in
    let e = c.rewrite-result.ensures in
    let b : Begins (kept_by c.args.self.now (λ z. (goal.Segment-dyn g z).holding z.1)) = record
    { sound = r.sound; done = r.settled; empty = r.empty; works = r.works } in
    may_note _ _ _ b _ c.next_frame-first.ensures (rewrites_of _ c.args.pages.now _ c.rewrite-result.result b e.sound e.rewritten e.refused e.stands) _ _ r.room

pub returns-in-Ok : goal.returns-in-Ok
returns-in-Ok g c =
    let r = c.requires in
    let ps = c.args.pages.now in
    let s = (kept_by c.args.self.now (λ z. (goal.Segment-dyn g z).holding z.1)) in
    let b : Begins s = record { sound = r.sound; done = r.settled; empty = r.empty; works = r.works } in
    let le : length ps ≤ length ps = omega arith in
    let wrote = moved_wrote s 0 ps c.in-Ok.frames (length ps) _ b c.rewrite-result.ensures.sound le c.in-Ok.ensures.rewritten c.rewrite-result.ensures.stands in
    let holds = λ (l : logs.Contents). care.MovedBehind 0 s.log l ps [] c.in-Ok.frames in
    let done = moved_noted s _ _ b _ c.next_frame-first.ensures _ _ c.note_moved.ensures.noted _ wrote holds c.in-Ok.ensures.rewritten in
    record { quiet = record { sound = done.0; noted = c.note_moved.ensures.stays }; leaves = done.1 }

pub returns-in-Err : goal.returns-in-Err
returns-in-Err g c =
    let s = (kept_by c.args.self.now (λ z. (goal.Segment-dyn g z).holding z.1)) in
    let r = c.requires in
    let b : Begins s = record { sound = r.sound; done = r.settled; empty = r.empty; works = r.works } in
    let ps = c.args.pages.now in
    let le : length ps ≤ length ps = omega arith in
    let held = held_of s ps c.in-Err.fault _ b c.in-Err.ensures.refused in
    let wrote = refused_wrote s 0 ps c.in-Err.fault (length ps) _ b c.rewrite-result.ensures.sound le held c.rewrite-result.ensures.stands in
    let stop = stopped_noted s _ _ b _ c.next_frame-first.ensures _ _ c.note_moved.ensures.noted wrote
    (rewrites.RefusesRewrite c.in-Err.fault s.log ps) c.in-Err.ensures.refused in
    record { quiet = record { sound = stop.0; noted = c.note_moved.ensures.stays }; leaves = (c.in-Err.fault, c.from.ensures, stop.1) }
