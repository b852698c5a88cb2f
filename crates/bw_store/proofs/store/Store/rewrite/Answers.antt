use Rattle.std.proofs.Common.{inl, inr, refl}
use Rattle.std.proofs.lemmas.Result.{err_from_is_err_and}
use Rattle.bw_core.specs.Views as core
use Rattle.bw_store.specs.Kept.{with_versions}
use Rattle.bw_store.specs.Views.{kept_by}
use Rattle.bw_store.proofs.Later.{beside_sound}
use Rattle.bw_store.proofs.Beside.{goes_beside, goes_hidden, goes_shown, runs_hidden, runs_refused, runs_shown}
use Rattle.bw_store.proofs.store.Store.rewrite.Goals as goal

pub publish-requires : goal.publish-requires
publish-requires g c = record {
  sound = beside_sound (kept_by c.args.self.now (λ z. (goal.Segment-dyn g z).holding z.1))
      (with_versions (core.kept_by c.rewrite.new.self (λ z. (goal.Segment-dyn g z).holding z.1)) c.args.self.now.versions)
      c.requires.sound c.rewrite.ensures.goes.sound c.rewrite.ensures.goes.follows.continues refl;
}

pub returns-in_err-frames-clause-goes : goal.returns-in_err-frames-clause-goes
returns-in_err-frames-clause-goes g c = goes_beside _ _ _ c.requires.sound c.rewrite.ensures.goes refl

pub returns-in_err-frames-clause-leaves : goal.returns-in_err-frames-clause-leaves
returns-in_err-frames-clause-leaves g c =
    let p = err_from_is_err_and c.from_residual.result c.from_residual.ensures.1 in
    rw (p.1, p.2) (inl (record { base = c.in_err-frames.ensures.leaves; quiet = refl }))

pub returns-in_err-publish-clause-leaves : goal.returns-in_err-publish-clause-leaves
returns-in_err-publish-clause-leaves g c =
    let p = err_from_is_err_and c.from_residual-in_err-publish.result c.from_residual-in_err-publish.ensures.1 in
    rw (p.1, p.2) (inr (refl, (_, (_, record { base = c.in_ok-frames.ensures.leaves; quiet = refl }), c.in_err-publish.ensures.leaves)))

pub returns-in_err-publish-clause-goes : goal.returns-in_err-publish-clause-goes
returns-in_err-publish-clause-goes g c =
    goes_hidden _ _ _ _ (goes_beside c.args.self.now _ _ c.requires.sound c.rewrite.ensures.goes refl) c.publish.ensures.quiet
    c.in_err-publish.ensures.leaves

pub returns-clause-leaves : goal.returns-clause-leaves
returns-clause-leaves g c = (_, record { base = c.in_ok-frames.ensures.leaves; quiet = refl }, c.in_ok-publish.ensures.leaves)

pub returns-clause-goes : goal.returns-clause-goes
returns-clause-goes g c =
    goes_shown _ _ _ _ (goes_beside c.args.self.now _ _ c.requires.sound c.rewrite.ensures.goes refl) c.publish.ensures.quiet
    c.in_ok-publish.ensures.leaves

pub returns-in_err-frames-clause-runs : goal.returns-in_err-frames-clause-runs
returns-in_err-frames-clause-runs g c =
    let p = err_from_is_err_and c.from_residual.result c.from_residual.ensures.1 in
    let old = kept_by c.args.self.now (λ z. (goal.Segment-dyn g z).holding z.1) in
    let middle = with_versions (core.kept_by c.rewrite.new.self (λ z. (goal.Segment-dyn g z).holding z.1)) c.args.self.now.versions in
    rw p.1 (runs_refused old middle _ (beside_sound old middle c.requires.sound c.rewrite.ensures.goes.sound c.rewrite.ensures.goes.follows.continues refl) c.in_err-frames.ensures.runs.steps refl)

pub returns-in_err-publish-clause-runs : goal.returns-in_err-publish-clause-runs
returns-in_err-publish-clause-runs g c =
    let p = err_from_is_err_and c.from_residual-in_err-publish.result c.from_residual-in_err-publish.ensures.1 in
    let old = kept_by c.args.self.now (λ z. (goal.Segment-dyn g z).holding z.1) in
    let middle = with_versions (core.kept_by c.rewrite.new.self (λ z. (goal.Segment-dyn g z).holding z.1)) c.args.self.now.versions in
    rw p.1 (runs_hidden old middle _ _ c.publish.ensures.quiet.sound c.in_ok-frames.ensures.runs.steps refl c.in_err-publish.ensures.leaves)

pub returns-clause-runs : goal.returns-clause-runs
returns-clause-runs g c =
    let old = kept_by c.args.self.now (λ z. (goal.Segment-dyn g z).holding z.1) in
    let middle = with_versions (core.kept_by c.rewrite.new.self (λ z. (goal.Segment-dyn g z).holding z.1)) c.args.self.now.versions in
    runs_shown old middle _ _ (beside_sound old middle c.requires.sound c.rewrite.ensures.goes.sound c.rewrite.ensures.goes.follows.continues refl) c.publish.ensures.quiet.sound
    c.in_ok-frames.ensures.runs.steps refl c.in_ok-publish.ensures.leaves
