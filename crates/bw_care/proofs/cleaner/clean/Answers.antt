use Rattle.std.proofs.Common.{◌≡◌, ◌≤◌, ℕ, List, Some, ◌∙◌, refl, sym, ap, length, arith}
use Rattle.bw_log.specs.declared.fault.LogFault.TheVariants.{NoMemory}
use Rattle.bw_care.specs.Cleaning.{old_pages, pages_upto}
use Rattle.bw_care.specs.Views.{seen}
use Rattle.bw_care.proofs.PagesMoved.{no_base_before, all_cleaned}
use Rattle.bw_care.proofs.CleaningSteps.{oldest_behind, stopped_first, stopped_stands, moved_stand, same_m}
use Rattle.bw_care.proofs.cleaner.clean.Goals as goal

pub returns-in-Err-clause-refused : goal.returns-in-Err-clause-refused
returns-in-Err-clause-refused g c =
    let two : 2 ≤ length (seen c.args.log.now (λ b. (goal.Segment-dyn g b).holding b.1)).live = omega (arith, c.if-live-lt2.false, c.live.ensures) in
    (two, sym c.if-is_failed.ensures, stopped_first _ _ _ _ NoMemory (oldest_behind _ c.requires) (sym c.if-is_failed.ensures) refl tt)

pub returns-in-Err-move_pages-clause-stands : goal.returns-in-Err-move_pages-clause-stands
returns-in-Err-move_pages-clause-stands g c = λ leaves stand. stopped_stands _ _ _ _ c.in-Err-move_pages.fault c.in-Err-move_pages.ensures.refused leaves stand

pub give_up_oldest-requires-clause-bases : goal.give_up_oldest-requires-clause-bases
give_up_oldest-requires-clause-bases g c =
    let two : 2 ≤ length (seen c.args.log.now (λ b. (goal.Segment-dyn g b).holding b.1)).live = omega (arith, c.if-live-lt2.false, c.live.ensures) in
    no_base_before _ _ c.in-Ok-move_pages.frames c.requires c.in-Ok-move_pages.ensures.sound two (sym c.if-is_failed.ensures) c.in-Ok-move_pages.ensures.moved

pub returns-clause-cleaned : goal.returns-clause-cleaned
returns-clause-cleaned g c =
    let two : 2 ≤ length (seen c.args.log.now (λ b. (goal.Segment-dyn g b).holding b.1)).live = omega (arith, c.if-live-lt2.false, c.live.ensures) in
    let many : c.len.result ≡ length (old_pages (seen c.args.log.now (λ b. (goal.Segment-dyn g b).holding b.1))) =
    omega (
      arith,
      c.len.ensures,
      c.in-Ok.pages.ok.0,
      ap (λ (l : List ℕ). length l) (c.in-Ok.ensures
          ∙ ap (λ (n : ℕ). pages_upto n (seen c.args.log.now (λ b. (goal.Segment-dyn g b).holding b.1))) c.last_old.ensures),
    ) in
    all_cleaned _ _ _ _ (Some (c.in-Some.segment, c.in-Some.lease, c.in-Some.field-0-2)) c.in-Some.field-0-2 c.requires
    c.in-Ok-move_pages.ensures.sound two (sym c.if-is_failed.ensures)
    c.in-Ok-move_pages.ensures.moved
    c.give_up_oldest.ensures.given_up c.give_up_oldest.ensures.counted c.in-Some.ensures refl many

pub returns-clause-stands : goal.returns-clause-stands
returns-clause-stands g c = λ leaves stand.
    same_m _ _ _ _ _ _ c.in-Ok-move_pages.frames leaves c.in-Ok-move_pages.ensures.moved
    (c.give_up_oldest.ensures.stands leaves (moved_stand _ _ _ _ _ c.in-Ok-move_pages.frames leaves c.in-Ok-move_pages.ensures.moved stand))

pub returns-then-is_failed-clause-nothing_old : goal.returns-then-is_failed-clause-nothing_old
returns-then-is_failed-clause-nothing_old g c =
    let two : 2 ≤ length (seen c.args.log.now (λ b. (goal.Segment-dyn g b).holding b.1)).live = omega (arith, c.if-live-lt2.false, c.live.ensures) in
    (λ e. absurd cc, λ few. absurd (omega (arith, few, two)))

pub returns-then-is_failed-clause-failed : goal.returns-then-is_failed-clause-failed
returns-then-is_failed-clause-failed g c =
    let two : 2 ≤ length (seen c.args.log.now (λ b. (goal.Segment-dyn g b).holding b.1)).live = omega (arith, c.if-live-lt2.false, c.live.ensures) in
    (λ _. (two, sym c.if-is_failed.ensures), λ _. refl)

pub returns-then-is_failed-clause-refused : goal.returns-then-is_failed-clause-refused
returns-then-is_failed-clause-refused g c =
    let two : 2 ≤ length (seen c.args.log.now (λ b. (goal.Segment-dyn g b).holding b.1)).live = omega (arith, c.if-live-lt2.false, c.live.ensures) in
    (refl, two, sym c.if-is_failed.ensures)

pub returns-in-Err-move_pages-clause-cleaned : goal.returns-in-Err-move_pages-clause-cleaned
returns-in-Err-move_pages-clause-cleaned g c = tt
