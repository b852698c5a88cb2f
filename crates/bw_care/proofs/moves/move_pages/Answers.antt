use Rattle.std.proofs.Common.{◌≡◌, Err, sym, ap, subst}
use Rattle.std.specs.List.{AllByRecursion}
use Rattle.std.proofs.lemmas.Result.{err_from_is_err_and}
use Rattle.bw_log.specs.Reads.{IsPage}
use Rattle.bw_log.proofs.Fetched.{stops_as}
use Rattle.bw_care.specs.Cleaning.{oldest_last}
use Rattle.bw_care.specs.Moving.{HoldsSome, IsReason}
use Rattle.bw_care.specs.Views.{seen}
use Rattle.bw_care.proofs.CleaningSteps.{oldest_behind, moved_told, stopped_told, stopped_first, fill_refused, fill_reason}
use Rattle.bw_care.proofs.OldestHolds.{oldest_holds}
use Rattle.bw_care.proofs.OldPages.{old_are_pages}
use Rattle.bw_care.proofs.moves.move_pages.Goals as goal

pub read_ahead-requires-clause-pages : goal.read_ahead-requires-clause-pages
read_ahead-requires-clause-pages g c =
    let log = seen c.args.log.now (λ b. (goal.Segment-dyn g b).holding b.1) in
    subst (AllByRecursion (IsPage log)) (sym c.requires.pages) (old_are_pages (oldest_last log log.live) log)

pub returns-in_err-ahead-clause-refused : goal.returns-in_err-ahead-clause-refused
returns-in_err-ahead-clause-refused g c =
    let p = err_from_is_err_and c.from_residual.result c.from_residual.ensures.1 in
    let log = seen c.args.log.now (λ b. (goal.Segment-dyn g b).holding b.1) in
    let stops = stops_as (λ at. at ≡ 0) (HoldsSome log c.args.pages.now) log _ c.in_err-ahead.field-0.0
    (oldest_holds log c.args.pages.now c.requires.sound c.requires.works c.requires.some c.requires.pages c.in_err-ahead.ensures.needed)
    c.in_err-ahead.ensures.stops in
    rw (p.1, p.2) (stopped_first _ _ _ _ c.in_err-ahead.field-0.0 (oldest_behind _ c.requires.sound) c.requires.works
    (fill_refused _ _ _ c.in_err-ahead.field-0.0 stops (λ same. c.in_err-ahead.ensures.paged (ap (λ fault. Err fault) same)))
    (subst (IsReason c.in_err-ahead.field-0.0 log) c.requires.pages
    (fill_reason _ _ c.in_err-ahead.field-0.0 c.args.pages.now stops
    (λ same. c.in_err-ahead.ensures.paged (ap (λ fault. Err fault) same)) c.in_err-ahead.ensures.needed)))

pub move_all-requires-clause-pages : goal.move_all-requires-clause-pages
move_all-requires-clause-pages g c =
    let log = seen c.args.log.now (λ b. (goal.Segment-dyn g b).holding b.1) in
    subst (λ k. AllByRecursion (IsPage k) c.args.pages.now) (sym c.in_ok-ahead.ensures.stops)
    (subst (AllByRecursion (IsPage log)) (sym c.requires.pages) (old_are_pages (oldest_last log log.live) log))

pub returns-clause-moved : goal.returns-clause-moved
returns-clause-moved g c =
    let log = seen c.args.log.now (λ b. (goal.Segment-dyn g b).holding b.1) in
    moved_told (oldest_last log log.live) log _ _ c.args.pages.now _ c.move_all.result c.in_ok-ahead.ensures.stops c.requires.pages
    (oldest_behind log c.requires.sound) c.move_all.ensures.moved

pub returns-clause-refused : goal.returns-clause-refused
returns-clause-refused g c =
    let log = seen c.args.log.now (λ b. (goal.Segment-dyn g b).holding b.1) in
    stopped_told (oldest_last log log.live) log _ _ c.args.pages.now _ c.move_all.result c.in_ok-ahead.ensures.stops c.requires.pages
    (oldest_behind log c.requires.sound) c.move_all.ensures.refused
