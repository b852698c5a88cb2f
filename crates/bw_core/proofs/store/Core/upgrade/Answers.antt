use Rattle.std.proofs.Common.{◌≡◌, ◌≤◌, inl, inr, refl, ap, ◌∙◌, arith}
use Rattle.std.specs.Prelude.{is_ok}
use Rattle.std.proofs.lemmas.Result.{err_from_is_err_and}
use Rattle.bw_care.specs.declared.upgrader.Upgraded.{Upgraded}
use Rattle.bw_care.specs.Upgrading.{old_segments, IsUpgraded, RefusesUpgrade}
use Rattle.bw_core.specs.Kept.{Kept}
use Rattle.bw_core.specs.Upgrading.{UpgradeMoves}
use Rattle.bw_core.proofs.CleanedMore.{goes_on, gives_floor, gives_follows, not_nothing}
use Rattle.bw_core.proofs.UpgradedMore.{old_stay, upgrade_boxes}
use Rattle.bw_terms.specs.declared.fault.StoreFault.TheVariants.{NothingOld}
use Rattle.bw_care.specs.declared.tally.Tally.{Tally}
use Rattle.bw_core.specs.Counting.{counted_gone}
use Rattle.bw_core.specs.Noted.{Noted}
use Rattle.bw_core.specs.Views.{kept_by}
use Rattle.bw_core.proofs.CountsMore.{step_counts}
use Rattle.bw_core.proofs.FollowMore.{continue_then, follows_as}
use Rattle.bw_core.proofs.Machines.{upgrade_keeps}
use Rattle.bw_core.proofs.Refusing.{never_unready}
use Rattle.bw_core.proofs.GivenMore.{upgrade_before}
use Rattle.bw_core.proofs.GoesMore.{runs_as}
use Rattle.bw_core.proofs.store.Core.upgrade.Goals as goal

pub returns-then-old_segments-eq0-clause-follows : goal.returns-then-old_segments-eq0-clause-follows
returns-then-old_segments-eq0-clause-follows g c = (follows_as _ _ refl).follows.continues

pub returns-in_err-make_ready-clause-leaves : goal.returns-in_err-make_ready-clause-leaves
returns-in_err-make_ready-clause-leaves g c =
    let p = err_from_is_err_and c.from_residual.result c.from_residual.ensures.1 in
    let live = c.old_segments.ensures in
    let many = c.if-old_segments-eq0.false in
    let some : 1 ≤ old_segments (kept_by c.args.self.now (λ z. (goal.Segment-dyn g z).holding z.1)).log = omega arith in
    rw (p.1, p.2) (inr (some, inl c.in_err-make_ready.ensures.refused))

pub returns-in_err-make_ready-clause-nothing_old : goal.returns-in_err-make_ready-clause-nothing_old
returns-in_err-make_ready-clause-nothing_old g c =
    let p = err_from_is_err_and c.from_residual.result c.from_residual.ensures.1 in
    let live = c.old_segments.ensures in
    let many = c.if-old_segments-eq0.false in
    let never : (c.in_err-make_ready.field-0.0 ≡ NothingOld) → ⊥ = never_unready _ _ _ c.in_err-make_ready.ensures.refused in
    rw (p.1, p.2) (λ e. absurd (never cc), λ few. absurd (omega arith))

pub returns-in_err-make_ready-clause-floor : goal.returns-in_err-make_ready-clause-floor
returns-in_err-make_ready-clause-floor g c =
    (let p = err_from_is_err_and c.from_residual.result c.from_residual.ensures.1 in rw p.1 c.make_ready.ensures.goes.follows.floor)

pub returns-in_err-make_ready-clause-follows : goal.returns-in_err-make_ready-clause-follows
returns-in_err-make_ready-clause-follows g c = c.make_ready.ensures.goes.follows.continues

pub returns-in_err-make_ready-clause-boxes : goal.returns-in_err-make_ready-clause-boxes
returns-in_err-make_ready-clause-boxes g c =
    (let p = err_from_is_err_and c.from_residual.result c.from_residual.ensures.1 in rw p.1 c.make_ready.ensures.goes.boxes.same)

pub returns-in_err-make_ready-clause-counts : goal.returns-in_err-make_ready-clause-counts
returns-in_err-make_ready-clause-counts g c =
    let p = err_from_is_err_and c.from_residual.result c.from_residual.ensures.1 in
    rw (p.1, p.2) (inl (inr c.in_err-make_ready.ensures.refused, ap (λ (n : Noted). n.tally) c.make_ready.ensures.goes.noted))

pub upgrade_counted-requires-clause-some : goal.upgrade_counted-requires-clause-some
upgrade_counted-requires-clause-some g c =
    let emptied = c.in_ok-make_ready.ensures.emptied in
    let stay = old_stay _ _ emptied.number c.requires.sound.log c.make_ready.ensures.goes.sound.log emptied.leaves in
    let live = c.old_segments.ensures in
    let many = c.if-old_segments-eq0.false in
    omega arith

pub returns-clause-leaves : goal.returns-clause-leaves
returns-clause-leaves g c =
    let live = c.old_segments.ensures in
    let many = c.if-old_segments-eq0.false in
    let some : 1 ≤ old_segments (kept_by c.args.self.now (λ z. (goal.Segment-dyn g z).holding z.1)).log = omega arith in
    goes_on _ _ _ UpgradeMoves _ _ _ _ some c.in_ok-make_ready.ensures.emptied c.upgrade_counted.ensures.leaves

pub returns-clause-nothing_old : goal.returns-clause-nothing_old
returns-clause-nothing_old g c =
    let emptied = c.in_ok-make_ready.ensures.emptied in
    let stay = old_stay _ _ emptied.number c.requires.sound.log c.make_ready.ensures.goes.sound.log emptied.leaves in
    let live = c.old_segments.ensures in
    let many = c.if-old_segments-eq0.false in
    (λ e. absurd (not_nothing (λ (x : Upgraded). x.frames) IsUpgraded RefusesUpgrade _ _ _ (λ r. (let none = r.1 in omega arith)) c.upgrade_counted.ensures.leaves e), λ few. absurd (omega arith))

pub returns-clause-floor : goal.returns-clause-floor
returns-clause-floor g c =
    gives_floor (λ (x : Upgraded). x.frames) IsUpgraded RefusesUpgrade (kept_by c.args.self.now (λ z. (goal.Segment-dyn g z).holding z.1)) _ _ _
    c.make_ready.ensures.goes.follows.floor c.upgrade_counted.ensures.leaves

pub returns-clause-follows : goal.returns-clause-follows
returns-clause-follows g c =
    continue_then _ _ _ c.make_ready.ensures.goes.follows.continues
    (gives_follows (λ (x : Upgraded). x.frames) IsUpgraded RefusesUpgrade _ _ _ c.make_ready.ensures.goes.sound.floor c.upgrade_counted.ensures.leaves)

pub returns-clause-boxes : goal.returns-clause-boxes
returns-clause-boxes g c =
    let emptied = c.in_ok-make_ready.ensures.emptied in
    let stay = old_stay _ _ emptied.number c.requires.sound.log c.make_ready.ensures.goes.sound.log emptied.leaves in
    upgrade_boxes _ (kept_by c.args.self.now (λ z. (goal.Segment-dyn g z).holding z.1)) _ _ _ stay
    c.make_ready.ensures.goes.boxes.same c.upgrade_counted.ensures.leaves

pub returns-clause-counts : goal.returns-clause-counts
returns-clause-counts g c =
    let s = kept_by c.make_ready.new.self (λ z. (goal.Segment-dyn g z).holding z.1) in
    let new = kept_by c.upgrade_counted.new.self (λ z. (goal.Segment-dyn g z).holding z.1) in
    let tally = ap (λ (n : Noted). n.tally) c.make_ready.ensures.goes.noted in
    step_counts (λ (k : Kept). old_segments k.log) UpgradeMoves _ s new c.upgrade_counted.result _ _ c.in_ok-make_ready.ensures.emptied c.upgrade_counted.ensures.leaves
    (c.upgrade_counted.ensures.counts ∙ ap (λ (t : Tally). counted_gone (old_segments s.log) t s (is_ok c.upgrade_counted.result) new) tally)

pub returns-then-old_segments-eq0-clause-runs : goal.returns-then-old_segments-eq0-clause-runs
returns-then-old_segments-eq0-clause-runs g c = runs_as _ _ _ c.requires.sound (inr (inl refl))

pub returns-in_err-make_ready-clause-runs : goal.returns-in_err-make_ready-clause-runs
returns-in_err-make_ready-clause-runs g c = runs_as _ _ _ c.make_ready.ensures.goes.sound (upgrade_keeps _ _ _ c.requires.sound (returns-in_err-make_ready-clause-leaves g c))

pub returns-clause-runs : goal.returns-clause-runs
returns-clause-runs g c = runs_as _ _ _ c.upgrade_counted.ensures.sound (upgrade_keeps _ _ _ c.requires.sound (returns-clause-leaves g c))

pub returns-clause-before : goal.returns-clause-before
returns-clause-before g c =
    upgrade_before _ _ _ _ c.requires.sound c.in_ok-make_ready.ensures.emptied c.make_ready.ensures.goes.sound c.in_ok-make_ready.ensures.settled
    c.upgrade_counted.ensures.sound c.upgrade_counted.ensures.leaves (upgrade_keeps _ _ _ c.requires.sound (returns-clause-leaves g c))
