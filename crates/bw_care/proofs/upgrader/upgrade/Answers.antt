use Rattle.std.proofs.Common.{◌≡◌, ◌∙◌, ℕ, List, length, sym, ap, subst, refl, arith}
use Rattle.std.specs.List.{AllByRecursion}
use Rattle.std.proofs.lemmas.Bool.{true≢false}
use Rattle.bw_log.specs.Reads.{IsPage}
use Rattle.bw_log.specs.declared.fault.LogFault.TheVariants.{NoMemory, Failed}
use Rattle.bw_care.specs.Upgrading.{old_segments, last_of_old, pages_of_old}
use Rattle.bw_care.specs.Views.{seen}
use Rattle.bw_care.proofs.CleaningSteps.{stopped_first, stopped_stands, moved_stand, same_m}
use Rattle.bw_care.proofs.OldPages.{old_are_pages}
use Rattle.bw_care.proofs.UpgradeMoved.{few_old, old_behind, some_count, pages_are, moved_old, stopped_old, never_failed, none_left, halts}
use Rattle.bw_care.proofs.UpgradeMoved.{all_upgraded, more_left, are_behind}
use Rattle.bw_care.proofs.upgrader.upgrade.Goals as goal

pub last_among-requires-clause-inside : goal.last_among-requires-clause-inside
last_among-requires-clause-inside g c =
    let log = seen c.args.log.now (λ b. (goal.Segment-dyn g b).holding b.1) in
    (let few = few_old log in omega (arith, few, c.old_segments-segments.ensures))

pub returns-in-Err-clause-refused : goal.returns-in-Err-clause-refused
returns-in-Err-clause-refused g c =
    let log = seen c.args.log.now (λ b. (goal.Segment-dyn g b).holding b.1) in
    let some = some_count c.old_segments-segments.result (old_segments log) c.old_segments-segments.ensures c.if-segments-eq0.false in
    record {
      some = some;
      worked = sym c.if-is_failed.ensures;
      stopped = stopped_first (last_of_old log) log log (pages_of_old log) NoMemory (old_behind log c.requires.sound) (sym c.if-is_failed.ensures) refl tt;
    }

pub move_all-requires-clause-pages : goal.move_all-requires-clause-pages
move_all-requires-clause-pages g c =
    let log = seen c.args.log.now (λ b. (goal.Segment-dyn g b).holding b.1) in
    let pages = pages_are log c.as_slice.result.now c.in-Ok.pages.items c.last_among.result c.old_segments-segments.result c.as_slice.ensures.value
    c.in-Ok.ensures c.last_among.ensures c.old_segments-segments.ensures in
    subst (AllByRecursion (IsPage log)) (sym pages) (old_are_pages (last_of_old log) log)

pub returns-in-Err-move_all-clause-failed : goal.returns-in-Err-move_all-clause-failed
returns-in-Err-move_all-clause-failed g c =
    let log = seen c.args.log.now (λ b. (goal.Segment-dyn g b).holding b.1) in
    let stopped = stopped_old log (seen c.move_all.new.log (λ b. (goal.Segment-dyn g b).holding b.1)) c.requires.sound c.as_slice.ensures.value
    c.in-Ok.ensures c.last_among.ensures c.old_segments-segments.ensures c.in-Err-move_all.ensures.refused in (
      λ e. absurd (never_failed (last_of_old log) log _ (pages_of_old log) c.in-Err-move_all.fault stopped
          (let same : c.in-Err-move_all.fault ≡ Failed = cc in same)),
      λ both. absurd (true≢false (sym both.1 ∙ sym c.if-is_failed.ensures)),
    )

pub returns-in-Err-move_all-clause-refused : goal.returns-in-Err-move_all-clause-refused
returns-in-Err-move_all-clause-refused g c =
    let log = seen c.args.log.now (λ b. (goal.Segment-dyn g b).holding b.1) in
    let some = some_count c.old_segments-segments.result (old_segments log) c.old_segments-segments.ensures c.if-segments-eq0.false in
    let stopped = stopped_old log (seen c.move_all.new.log (λ b. (goal.Segment-dyn g b).holding b.1)) c.requires.sound c.as_slice.ensures.value
    c.in-Ok.ensures c.last_among.ensures c.old_segments-segments.ensures c.in-Err-move_all.ensures.refused in
    halts log _ c.in-Err-move_all.fault some (sym c.if-is_failed.ensures) stopped

pub returns-in-Err-move_all-clause-stands : goal.returns-in-Err-move_all-clause-stands
returns-in-Err-move_all-clause-stands g c =
    let log = seen c.args.log.now (λ b. (goal.Segment-dyn g b).holding b.1) in
    let stopped = stopped_old log (seen c.move_all.new.log (λ b. (goal.Segment-dyn g b).holding b.1)) c.requires.sound c.as_slice.ensures.value
    c.in-Ok.ensures c.last_among.ensures c.old_segments-segments.ensures c.in-Err-move_all.ensures.refused in
    λ leaves stand. stopped_stands (last_of_old log) log _ (pages_of_old log) c.in-Err-move_all.fault stopped leaves stand

pub give_up-requires : goal.give_up-requires
give_up-requires g c =
    let log = seen c.args.log.now (λ b. (goal.Segment-dyn g b).holding b.1) in
    let now = seen c.move_all.new.log (λ b. (goal.Segment-dyn g b).holding b.1) in
    let works = sym c.if-is_failed.ensures in
    let moved = moved_old log now c.requires.sound c.as_slice.ensures.value c.in-Ok.ensures c.last_among.ensures c.old_segments-segments.ensures
    c.in-Ok-move_all.ensures.moved in
    let more = more_left log now c.in-Ok-move_all.frames c.requires.sound works c.requires.some moved in
    record {
      sound = c.in-Ok-move_all.ensures.sound;
      works = (c.in-Ok-move_all.ensures.moved (last_of_old log) (old_behind log c.requires.sound)).works;
      more = omega (arith, more, c.old_segments-segments.ensures);
      bases = λ i page less there. are_behind log now c.in-Ok-move_all.frames c.requires.sound c.in-Ok-move_all.ensures.sound works moved i page
          (omega (arith, less, c.old_segments-segments.ensures)) there;
    }

pub returns-clause-upgraded : goal.returns-clause-upgraded
returns-clause-upgraded g c =
    let log = seen c.args.log.now (λ b. (goal.Segment-dyn g b).holding b.1) in
    let pages = pages_are log c.as_slice.result.now c.in-Ok.pages.items c.last_among.result c.old_segments-segments.result c.as_slice.ensures.value
    c.in-Ok.ensures c.last_among.ensures c.old_segments-segments.ensures in
    let some = some_count c.old_segments-segments.result (old_segments log) c.old_segments-segments.ensures c.if-segments-eq0.false in
    let now = seen c.move_all.new.log (λ b. (goal.Segment-dyn g b).holding b.1) in
    let moved = moved_old log now c.requires.sound c.as_slice.ensures.value c.in-Ok.ensures c.last_among.ensures c.old_segments-segments.ensures
    c.in-Ok-move_all.ensures.moved in
    let many : c.len.result ≡ length (pages_of_old log) =
    omega (arith, c.len.ensures, c.in-Ok.pages.ok.0, ap (λ (l : List ℕ). length l) (sym c.as_slice.ensures.value ∙ pages)) in
    all_upgraded log now _ c.old_segments-segments.result c.len.result c.in-Ok-move_all.frames c.requires.sound c.in-Ok-move_all.ensures.sound some
    (sym c.if-is_failed.ensures) c.old_segments-segments.ensures moved c.give_up.ensures.given_up c.give_up.ensures.in_turn many

pub returns-clause-stands : goal.returns-clause-stands
returns-clause-stands g c =
    let log = seen c.args.log.now (λ b. (goal.Segment-dyn g b).holding b.1) in
    let now = seen c.move_all.new.log (λ b. (goal.Segment-dyn g b).holding b.1) in
    let moved = moved_old log now c.requires.sound c.as_slice.ensures.value c.in-Ok.ensures c.last_among.ensures c.old_segments-segments.ensures
    c.in-Ok-move_all.ensures.moved in
    λ leaves stand. same_m (last_of_old log) log now _ _ _ c.in-Ok-move_all.frames leaves moved
    (c.give_up.ensures.stands leaves (moved_stand (last_of_old log) log now _ _ c.in-Ok-move_all.frames leaves moved stand))

pub returns-clause-none_left : goal.returns-clause-none_left
returns-clause-none_left g c = none_left _ _ _ c.requires.sound c.give_up.ensures.sound (returns-clause-upgraded g c)
