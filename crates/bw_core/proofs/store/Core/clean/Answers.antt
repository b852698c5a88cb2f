use Rattle.std.proofs.Common.{◌≡◌, ◌≤◌, inl, inr, refl, ap, ◌∙◌, arith, length}
use Rattle.std.specs.Prelude.{is_ok}
use Rattle.std.proofs.lemmas.Result.{err_from_is_err_and}
use Rattle.bw_care.specs.declared.cleaner.Cleaned.{Cleaned}
use Rattle.bw_care.specs.Moving.{IsCleaned, Refuses}
use Rattle.bw_core.specs.Cleaning.{MoveLeaves}
use Rattle.bw_core.proofs.CleanedMore.{goes_on, live_stay, gives_floor, gives_follows, move_boxes, not_nothing}
use Rattle.bw_terms.specs.declared.fault.StoreFault.TheVariants.{NothingOld}
use Rattle.bw_care.specs.declared.tally.Tally.{Tally}
use Rattle.bw_core.specs.Counting.{counted_gone}
use Rattle.bw_core.specs.Noted.{Noted}
use Rattle.bw_core.specs.Views.{kept_by}
use Rattle.bw_core.proofs.CountsMore.{step_counts}
use Rattle.bw_core.proofs.FollowMore.{continue_then, follows_as}
use Rattle.bw_core.proofs.Machines.{clean_keeps}
use Rattle.bw_core.proofs.Refusing.{never_unready}
use Rattle.bw_core.proofs.GivenMore.{clean_before}
use Rattle.bw_core.proofs.GoesMore.{runs_as}
use Rattle.bw_core.proofs.store.Core.clean.Goals as goal

pub returns-then-live-lt2-clause-follows : goal.returns-then-live-lt2-clause-follows
returns-then-live-lt2-clause-follows g c = (follows_as _ _ refl).follows.continues

pub returns-in_err-make_ready-clause-leaves : goal.returns-in_err-make_ready-clause-leaves
returns-in_err-make_ready-clause-leaves g c =
    let p = err_from_is_err_and c.from_residual.result c.from_residual.ensures.1 in
    let live = c.live.ensures in
    let many = c.if-live-lt2.false in
    let some : 2 ≤ length (kept_by c.args.self.now (λ z. (goal.Segment-dyn g z).holding z.1)).log.live = omega arith in
    rw (p.1, p.2) (inr (some, inl c.in_err-make_ready.ensures.refused))

pub returns-in_err-make_ready-clause-nothing_old : goal.returns-in_err-make_ready-clause-nothing_old
returns-in_err-make_ready-clause-nothing_old g c =
    let p = err_from_is_err_and c.from_residual.result c.from_residual.ensures.1 in
    let live = c.live.ensures in
    let many = c.if-live-lt2.false in
    let never : (c.in_err-make_ready.field-0.0 ≡ NothingOld) → ⊥ = never_unready _ _ _ c.in_err-make_ready.ensures.refused in
    rw (p.1, p.2) (λ e. absurd (never cc), λ few. absurd (omega arith))

pub returns-in_err-make_ready-clause-floor : goal.returns-in_err-make_ready-clause-floor
returns-in_err-make_ready-clause-floor g c =
    (let p = err_from_is_err_and c.from_residual.result c.from_residual.ensures.1 in rw p.1 c.make_ready.ensures.goes.follows.floor)

pub returns-in_err-make_ready-clause-follows : goal.returns-in_err-make_ready-clause-follows
returns-in_err-make_ready-clause-follows g c = c.make_ready.ensures.goes.follows.continues

pub returns-in_err-make_ready-clause-boxes : goal.returns-in_err-make_ready-clause-boxes
returns-in_err-make_ready-clause-boxes g c =
    (let p = err_from_is_err_and c.from_residual.result c.from_residual.ensures.1 in rw p.1 c.make_ready.ensures.goes.boxes.same)

pub returns-in_err-make_ready-clause-counts : goal.returns-in_err-make_ready-clause-counts
returns-in_err-make_ready-clause-counts g c =
    let p = err_from_is_err_and c.from_residual.result c.from_residual.ensures.1 in
    rw (p.1, p.2) (inl (inr c.in_err-make_ready.ensures.refused, ap (λ (n : Noted). n.tally) c.make_ready.ensures.goes.noted))

pub move_pages-requires-clause-two : goal.move_pages-requires-clause-two
move_pages-requires-clause-two g c =
    let emptied = c.in_ok-make_ready.ensures.emptied in
    let stay = live_stay _ _ emptied.number emptied.leaves in
    let live = c.live.ensures in
    let many = c.if-live-lt2.false in
    omega arith

pub returns-clause-leaves : goal.returns-clause-leaves
returns-clause-leaves g c =
    let live = c.live.ensures in
    let many = c.if-live-lt2.false in
    goes_on _ _ _ MoveLeaves _ _ _ _ (omega arith) c.in_ok-make_ready.ensures.emptied c.move_pages.ensures.leaves

pub returns-clause-nothing_old : goal.returns-clause-nothing_old
returns-clause-nothing_old g c =
    let emptied = c.in_ok-make_ready.ensures.emptied in
    let stay = live_stay _ _ emptied.number emptied.leaves in
    let live = c.live.ensures in
    let many = c.if-live-lt2.false in
    (λ e. absurd (not_nothing (λ (x : Cleaned). x.frames) IsCleaned Refuses _ _ _ (λ r. (let few = r.1 in omega arith)) c.move_pages.ensures.leaves e), λ few. absurd (omega arith))

pub returns-clause-floor : goal.returns-clause-floor
returns-clause-floor g c =
    gives_floor (λ (x : Cleaned). x.frames) IsCleaned Refuses (kept_by c.args.self.now (λ z. (goal.Segment-dyn g z).holding z.1)) _ _ _
    c.make_ready.ensures.goes.follows.floor c.move_pages.ensures.leaves

pub returns-clause-follows : goal.returns-clause-follows
returns-clause-follows g c =
    continue_then _ _ _ c.make_ready.ensures.goes.follows.continues
    (gives_follows (λ (x : Cleaned). x.frames) IsCleaned Refuses _ _ _ c.make_ready.ensures.goes.sound.floor c.move_pages.ensures.leaves)

pub returns-clause-boxes : goal.returns-clause-boxes
returns-clause-boxes g c =
    move_boxes (kept_by c.args.self.now (λ z. (goal.Segment-dyn g z).holding z.1)) _ _ _ c.make_ready.ensures.goes.boxes.same c.move_pages.ensures.leaves

pub returns-clause-counts : goal.returns-clause-counts
returns-clause-counts g c =
    let s = kept_by c.make_ready.new.self (λ z. (goal.Segment-dyn g z).holding z.1) in
    let new = kept_by c.move_pages.new.self (λ z. (goal.Segment-dyn g z).holding z.1) in
    let tally = ap (λ (n : Noted). n.tally) c.make_ready.ensures.goes.noted in
    step_counts (λ _. 1) MoveLeaves _ s new c.move_pages.result _ _ c.in_ok-make_ready.ensures.emptied c.move_pages.ensures.leaves
    (c.move_pages.ensures.counts ∙ ap (λ (t : Tally). counted_gone 1 t s (is_ok c.move_pages.result) new) tally)

pub returns-then-live-lt2-clause-runs : goal.returns-then-live-lt2-clause-runs
returns-then-live-lt2-clause-runs g c = runs_as _ _ _ c.requires.sound (inr (inl refl))

pub returns-in_err-make_ready-clause-runs : goal.returns-in_err-make_ready-clause-runs
returns-in_err-make_ready-clause-runs g c = runs_as _ _ _ c.make_ready.ensures.goes.sound (clean_keeps _ _ _ c.requires.sound (returns-in_err-make_ready-clause-leaves g c))

pub returns-clause-runs : goal.returns-clause-runs
returns-clause-runs g c = runs_as _ _ _ c.move_pages.ensures.sound (clean_keeps _ _ _ c.requires.sound (returns-clause-leaves g c))

pub returns-clause-before : goal.returns-clause-before
returns-clause-before g c =
    let live = c.live.ensures in
    let many = c.if-live-lt2.false in
    clean_before _ _ _ _ (omega arith) c.in_ok-make_ready.ensures.emptied c.make_ready.ensures.goes.sound c.in_ok-make_ready.ensures.settled
    c.move_pages.ensures.sound c.move_pages.ensures.leaves (clean_keeps _ _ _ c.requires.sound (returns-clause-leaves g c))
