use Rattle.std.proofs.Common.{inl, inr, refl, ap, ◌∙◌}
use Rattle.std.proofs.lemmas.Result.{err_from_is_err_and}
use Rattle.bw_care.specs.Upgrading.{old_segments}
use Rattle.bw_core.specs.Noted.{Noted}
use Rattle.bw_core.specs.Views as core
use Rattle.bw_store.specs.Kept.{with_versions}
use Rattle.bw_store.specs.Views.{kept_by}
use Rattle.bw_store.proofs.Later.{beside_sound}
use Rattle.bw_store.proofs.Showing.{beside_continues, hides_before, hides_boxes, hides_continues, hides_floor, shows_before, shows_continues, shows_floor, shows_roster}
use Rattle.bw_store.proofs.Beside.{runs_hidden, runs_refused, runs_shown}
use Rattle.bw_store.proofs.store.Store.upgrade.Goals as goal

pub publish-requires : goal.publish-requires
publish-requires g c = record {
  sound = beside_sound (kept_by c.args.self.now (λ z. (goal.Segment-dyn g z).holding z.1))
      (with_versions (core.kept_by c.upgrade.new.self (λ z. (goal.Segment-dyn g z).holding z.1)) c.args.self.now.versions)
      c.requires.sound c.upgrade.ensures.sound c.upgrade.ensures.follows refl;
}

pub returns-in_err-upgraded-clause-sound : goal.returns-in_err-upgraded-clause-sound
returns-in_err-upgraded-clause-sound g c =
    beside_sound (kept_by c.args.self.now (λ z. (goal.Segment-dyn g z).holding z.1))
    (with_versions (core.kept_by c.upgrade.new.self (λ z. (goal.Segment-dyn g z).holding z.1)) c.args.self.now.versions)
    c.requires.sound c.upgrade.ensures.sound c.upgrade.ensures.follows refl

pub returns-in_err-upgraded-clause-leaves : goal.returns-in_err-upgraded-clause-leaves
returns-in_err-upgraded-clause-leaves g c =
    let p = err_from_is_err_and c.from_residual.result c.from_residual.ensures.1 in
    rw (p.1, p.2) (inl (record { base = c.in_err-upgraded.ensures.leaves; quiet = refl }))

pub returns-in_err-upgraded-clause-follows : goal.returns-in_err-upgraded-clause-follows
returns-in_err-upgraded-clause-follows g c = beside_continues _ _ c.upgrade.ensures.follows refl

pub returns-in_err-upgraded-clause-floor : goal.returns-in_err-upgraded-clause-floor
returns-in_err-upgraded-clause-floor g c =
    let p = err_from_is_err_and c.from_residual.result c.from_residual.ensures.1 in
    rw (p.1, p.2) (inl c.in_err-upgraded.ensures.floor)

pub returns-in_err-upgraded-clause-boxes : goal.returns-in_err-upgraded-clause-boxes
returns-in_err-upgraded-clause-boxes g c =
    let p = err_from_is_err_and c.from_residual.result c.from_residual.ensures.1 in
    rw (p.1, p.2) (inl c.in_err-upgraded.ensures.boxes)

pub returns-in_err-upgraded-clause-counts : goal.returns-in_err-upgraded-clause-counts
returns-in_err-upgraded-clause-counts g c =
    let p = err_from_is_err_and c.from_residual.result c.from_residual.ensures.1 in
    rw (p.1, p.2) (inl (record { base = c.in_err-upgraded.ensures.counts; quiet = refl }))

pub returns-in_err-publish-clause-leaves : goal.returns-in_err-publish-clause-leaves
returns-in_err-publish-clause-leaves g c =
    let p = err_from_is_err_and c.from_residual-in_err-publish.result c.from_residual-in_err-publish.ensures.1 in
    rw (p.1, p.2) (inr (refl, (_, (_, record { base = c.in_ok-upgraded.ensures.leaves; quiet = refl }), c.in_err-publish.ensures.leaves)))

pub returns-in_err-publish-clause-follows : goal.returns-in_err-publish-clause-follows
returns-in_err-publish-clause-follows g c = hides_continues _ _ _ (beside_continues _ _ c.upgrade.ensures.follows refl) c.in_err-publish.ensures.leaves

pub returns-in_err-publish-clause-floor : goal.returns-in_err-publish-clause-floor
returns-in_err-publish-clause-floor g c =
    let p = err_from_is_err_and c.from_residual-in_err-publish.result c.from_residual-in_err-publish.ensures.1 in
    rw (p.1, p.2) (hides_floor (old_segments (kept_by c.args.self.now (λ z. (goal.Segment-dyn g z).holding z.1)).log) (kept_by c.args.self.now (λ z. (goal.Segment-dyn g z).holding z.1))
    (with_versions (core.kept_by c.upgrade.new.self (λ z. (goal.Segment-dyn g z).holding z.1)) c.args.self.now.versions) _ c.in_ok-upgraded.upgraded
    c.in_ok-upgraded.ensures.floor c.in_ok-upgraded.ensures.boxes c.in_err-publish.ensures.leaves)

pub returns-in_err-publish-clause-boxes : goal.returns-in_err-publish-clause-boxes
returns-in_err-publish-clause-boxes g c =
    let p = err_from_is_err_and c.from_residual-in_err-publish.result c.from_residual-in_err-publish.ensures.1 in
    rw (p.1, p.2) (hides_boxes (old_segments (kept_by c.args.self.now (λ z. (goal.Segment-dyn g z).holding z.1)).log) (kept_by c.args.self.now (λ z. (goal.Segment-dyn g z).holding z.1))
    (with_versions (core.kept_by c.upgrade.new.self (λ z. (goal.Segment-dyn g z).holding z.1)) c.args.self.now.versions) _ c.in_ok-upgraded.upgraded
    c.in_ok-upgraded.ensures.boxes c.in_err-publish.ensures.leaves)

pub returns-in_err-publish-clause-counts : goal.returns-in_err-publish-clause-counts
returns-in_err-publish-clause-counts g c =
    let p = err_from_is_err_and c.from_residual-in_err-publish.result c.from_residual-in_err-publish.ensures.1 in
    rw (p.1, p.2, ap (λ (n : Noted). n.tally) c.publish.ensures.quiet.noted) (inr (refl, (_, (_, record { base = c.in_ok-upgraded.ensures.counts; quiet = refl }), c.in_err-publish.ensures.leaves)))

pub returns-clause-leaves : goal.returns-clause-leaves
returns-clause-leaves g c = (_, record { base = c.in_ok-upgraded.ensures.leaves; quiet = refl }, c.in_ok-publish.ensures.leaves)

pub returns-clause-follows : goal.returns-clause-follows
returns-clause-follows g c = shows_continues _ _ _ (beside_continues _ _ c.upgrade.ensures.follows refl) c.in_ok-publish.ensures.leaves

pub returns-clause-boxes : goal.returns-clause-boxes
returns-clause-boxes g c = shows_roster _ _ c.in_ok-publish.ensures.leaves ∙ c.in_ok-upgraded.ensures.boxes

pub returns-clause-floor : goal.returns-clause-floor
returns-clause-floor g c =
    shows_floor (old_segments (kept_by c.args.self.now (λ z. (goal.Segment-dyn g z).holding z.1)).log) (kept_by c.args.self.now (λ z. (goal.Segment-dyn g z).holding z.1))
    (with_versions (core.kept_by c.upgrade.new.self (λ z. (goal.Segment-dyn g z).holding z.1)) c.args.self.now.versions) _ c.in_ok-upgraded.upgraded
    c.in_ok-upgraded.ensures.floor c.in_ok-publish.ensures.leaves

pub returns-clause-counts : goal.returns-clause-counts
returns-clause-counts g c =
    rw (ap (λ (n : Noted). n.tally) c.publish.ensures.quiet.noted) (_, record { base = c.in_ok-upgraded.ensures.counts; quiet = refl }, c.in_ok-publish.ensures.leaves)

pub returns-in_err-upgraded-clause-runs : goal.returns-in_err-upgraded-clause-runs
returns-in_err-upgraded-clause-runs g c =
    let p = err_from_is_err_and c.from_residual.result c.from_residual.ensures.1 in
    let old = kept_by c.args.self.now (λ z. (goal.Segment-dyn g z).holding z.1) in
    let middle = with_versions (core.kept_by c.upgrade.new.self (λ z. (goal.Segment-dyn g z).holding z.1)) c.args.self.now.versions in
    rw p.1 (runs_refused old middle _ (beside_sound old middle c.requires.sound c.upgrade.ensures.sound c.upgrade.ensures.follows refl) c.in_err-upgraded.ensures.runs.steps refl)

pub returns-in_err-publish-clause-runs : goal.returns-in_err-publish-clause-runs
returns-in_err-publish-clause-runs g c =
    let p = err_from_is_err_and c.from_residual-in_err-publish.result c.from_residual-in_err-publish.ensures.1 in
    let old = kept_by c.args.self.now (λ z. (goal.Segment-dyn g z).holding z.1) in
    let middle = with_versions (core.kept_by c.upgrade.new.self (λ z. (goal.Segment-dyn g z).holding z.1)) c.args.self.now.versions in
    rw p.1 (runs_hidden old middle _ _ c.publish.ensures.quiet.sound c.in_ok-upgraded.ensures.runs.steps refl c.in_err-publish.ensures.leaves)

pub returns-clause-runs : goal.returns-clause-runs
returns-clause-runs g c =
    let old = kept_by c.args.self.now (λ z. (goal.Segment-dyn g z).holding z.1) in
    let middle = with_versions (core.kept_by c.upgrade.new.self (λ z. (goal.Segment-dyn g z).holding z.1)) c.args.self.now.versions in
    runs_shown old middle _ _ (beside_sound old middle c.requires.sound c.upgrade.ensures.sound c.upgrade.ensures.follows refl) c.publish.ensures.quiet.sound
    c.in_ok-upgraded.ensures.runs.steps refl c.in_ok-publish.ensures.leaves

pub returns-in_err-upgraded-clause-before : goal.returns-in_err-upgraded-clause-before
returns-in_err-upgraded-clause-before g c =
    let p = err_from_is_err_and c.from_residual.result c.from_residual.ensures.1 in
    rw p.1 (inl c.in_err-upgraded.ensures.boxes)

pub returns-in_err-publish-clause-before : goal.returns-in_err-publish-clause-before
returns-in_err-publish-clause-before g c =
    let p = err_from_is_err_and c.from_residual-in_err-publish.result c.from_residual-in_err-publish.ensures.1 in
    rw p.1 (inr (hides_before _ (with_versions (core.kept_by c.upgrade.new.self (λ z. (goal.Segment-dyn g z).holding z.1)) c.args.self.now.versions) _
    c.in_ok-upgraded.ensures.before c.in_err-publish.ensures.leaves))

pub returns-clause-before : goal.returns-clause-before
returns-clause-before g c =
    shows_before _ (with_versions (core.kept_by c.upgrade.new.self (λ z. (goal.Segment-dyn g z).holding z.1)) c.args.self.now.versions) _
    c.in_ok-upgraded.ensures.before c.in_ok-publish.ensures.leaves
