use Rattle.std.proofs.Common.{◌∙◌, ap}
use Rattle.bw_care.specs.Upgrading.{old_segments}
use Rattle.bw_care.specs.Upgrading as care
use Rattle.bw_core.specs.Kept as kept
use Rattle.bw_core.specs.Views.{kept_by}
use Rattle.bw_core.proofs.Noting.{begins, given_noted, may_note, stopped_noted}
use Rattle.bw_core.proofs.UpgradedMore.{upgrades_of, upgraded_wrote, halted_wrote}
use Rattle.bw_core.proofs.store.Core.upgrade_pages.Goals as goal

pub upgrade-result-requires-clause-some : goal.upgrade-result-requires-clause-some
upgrade-result-requires-clause-some g c = c.requires.ready.settled.stands.some

pub note_moved-requires : goal.note_moved-requires
note_moved-requires g c = (let e = c.upgrade-result.ensures in may_note _ _ _ (begins c.requires.ready) _ c.next_frame-first.ensures
    (upgrades_of (kept_by c.args.self.now (λ z. (goal.Segment-dyn g z).holding z.1)) _ c.upgrade-result.result (begins c.requires.ready)
    c.requires.some e.sound e.upgraded e.refused e.stands) _ _ c.requires.ready.room)

pub returns-in-Ok : goal.returns-in-Ok
returns-in-Ok g c =
    let done = given_noted _ _ _ (begins c.requires.ready) _ c.next_frame-first.ensures _ _ c.note_moved.ensures.noted _
    (upgraded_wrote (kept_by c.args.self.now (λ z. (goal.Segment-dyn g z).holding z.1)) c.in-Ok.upgraded _ (begins c.requires.ready)
    c.upgrade-result.ensures.sound c.in-Ok.ensures.upgraded c.upgrade-result.ensures.stands)
    (care.IsUpgraded (kept_by c.args.self.now (λ z. (goal.Segment-dyn g z).holding z.1)).log c.in-Ok.upgraded) c.in-Ok.ensures.upgraded in
    record {
      quiet = record { sound = done.0; noted = c.note_moved.ensures.stays };
      leaves = done.1;
      none_left = ap (λ (k : kept.Kept). old_segments k.log) c.note_moved.ensures.noted.noted ∙ c.in-Ok.ensures.none_left;
    }

pub returns-in-Err : goal.returns-in-Err
returns-in-Err g c =
    let wrote = halted_wrote (kept_by c.args.self.now (λ z. (goal.Segment-dyn g z).holding z.1)) c.in-Err.fault _ (begins c.requires.ready)
    c.requires.some c.upgrade-result.ensures.sound c.in-Err.ensures.refused c.upgrade-result.ensures.stands in
    let stop = stopped_noted _ _ _ (begins c.requires.ready) _ c.next_frame-first.ensures _ _ c.note_moved.ensures.noted wrote
    (care.RefusesUpgrade c.in-Err.fault (kept_by c.args.self.now (λ z. (goal.Segment-dyn g z).holding z.1)).log) c.in-Err.ensures.refused in
    record { quiet = record { sound = stop.0; noted = c.note_moved.ensures.stays }; leaves = (c.in-Err.fault, c.from.ensures, stop.1); none_left = tt }
