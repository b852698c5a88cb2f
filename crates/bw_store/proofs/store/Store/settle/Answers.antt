use Rattle.std.proofs.Common.{refl, ◌∙◌}
use Rattle.std.proofs.lemmas.Result.{err_from_is_err_and}
use Rattle.bw_core.specs.Views as core
use Rattle.bw_store.specs.Kept.{with_versions}
use Rattle.bw_store.specs.Views.{kept_by}
use Rattle.bw_store.proofs.Forwards.{settle_hides, settle_refuses, settle_shows}
use Rattle.bw_store.proofs.Later.{beside_sound}
use Rattle.bw_store.proofs.Machines as machine
use Rattle.bw_store.proofs.Showing.{beside_follows, hides_follows, hides_roster, shows_all, shows_core, shows_follows, shows_roster}
use Rattle.bw_store.proofs.store.Store.settle.Goals as goal

pub publish-requires : goal.publish-requires
publish-requires g c = record {
  sound = beside_sound (kept_by c.args.self.now (λ z. (goal.Segment-dyn g z).holding z.1))
      (with_versions (core.kept_by c.settle.new.self (λ z. (goal.Segment-dyn g z).holding z.1)) c.args.self.now.versions)
      c.requires.sound c.settle.ensures.sound c.settle.ensures.sequel.follows.continues refl;
}

pub returns-in_err-entries-clause-sound : goal.returns-in_err-entries-clause-sound
returns-in_err-entries-clause-sound g c =
    beside_sound (kept_by c.args.self.now (λ z. (goal.Segment-dyn g z).holding z.1))
    (with_versions (core.kept_by c.settle.new.self (λ z. (goal.Segment-dyn g z).holding z.1)) c.args.self.now.versions)
    c.requires.sound c.settle.ensures.sound c.settle.ensures.sequel.follows.continues refl

pub returns-in_err-entries-clause-refused : goal.returns-in_err-entries-clause-refused
returns-in_err-entries-clause-refused g c =
    let p = err_from_is_err_and c.from_residual.result c.from_residual.ensures.1 in
    rw (p.1, p.2) (settle_refuses (kept_by c.args.self.now (λ z. (goal.Segment-dyn g z).holding z.1))
    (core.kept_by c.settle.new.self (λ z. (goal.Segment-dyn g z).holding z.1)) _ _ _ c.in_err-entries.ensures.refused)

pub returns-in_err-entries-clause-steps : goal.returns-in_err-entries-clause-steps
returns-in_err-entries-clause-steps g c =
    let p = err_from_is_err_and c.from_residual.result c.from_residual.ensures.1 in
    rw p.1 (machine.settle_stops (kept_by c.args.self.now (λ z. (goal.Segment-dyn g z).holding z.1)) (with_versions (core.kept_by c.settle.new.self (λ z. (goal.Segment-dyn g z).holding z.1)) c.args.self.now.versions) c.in_err-entries.ensures.steps refl)

pub returns-in_err-entries-clause-sequel : goal.returns-in_err-entries-clause-sequel
returns-in_err-entries-clause-sequel g c = record {
  each_cut = c.settle.ensures.sequel.each_cut;
  follows = beside_follows _ _ c.settle.ensures.sequel.follows refl;
  boxes = c.settle.ensures.sequel.boxes;
  noted = c.settle.ensures.sequel.noted;
  may_leave = c.settle.ensures.sequel.may_leave;
}

pub returns-in_err-publish-clause-refused : goal.returns-in_err-publish-clause-refused
returns-in_err-publish-clause-refused g c =
    let p = err_from_is_err_and c.from_residual-in_err-publish.result c.from_residual-in_err-publish.ensures.1 in
    rw (p.1, p.2) (settle_hides (kept_by c.args.self.now (λ z. (goal.Segment-dyn g z).holding z.1))
    (core.kept_by c.settle.new.self (λ z. (goal.Segment-dyn g z).holding z.1)) _ _ _ c.in_ok-entries.ensures.goal.settles c.in_err-publish.ensures.leaves)

pub returns-in_err-publish-clause-steps : goal.returns-in_err-publish-clause-steps
returns-in_err-publish-clause-steps g c =
    let p = err_from_is_err_and c.from_residual-in_err-publish.result c.from_residual-in_err-publish.ensures.1 in
    rw p.1 (machine.settle_hides (kept_by c.args.self.now (λ z. (goal.Segment-dyn g z).holding z.1)) (with_versions (core.kept_by c.settle.new.self (λ z. (goal.Segment-dyn g z).holding z.1)) c.args.self.now.versions) _ c.in_ok-entries.ensures.steps refl c.in_err-publish.ensures.leaves)

pub returns-in_err-publish-clause-sequel : goal.returns-in_err-publish-clause-sequel
returns-in_err-publish-clause-sequel g c = record {
  each_cut = c.publish.ensures.quiet.sound.base.stands;
  follows = hides_follows _ _ _ (beside_follows _ _ c.settle.ensures.sequel.follows refl) c.in_err-publish.ensures.leaves;
  boxes = record { same = hides_roster _ _ c.in_err-publish.ensures.leaves ∙ c.settle.ensures.sequel.boxes.same };
  noted = c.publish.ensures.quiet.noted ∙ c.settle.ensures.sequel.noted;
  may_leave = machine.left _ c.publish.ensures.quiet.sound;
}

pub returns-clause-steps : goal.returns-clause-steps
returns-clause-steps g c =
    machine.settle_shows (kept_by c.args.self.now (λ z. (goal.Segment-dyn g z).holding z.1)) (with_versions (core.kept_by c.settle.new.self (λ z. (goal.Segment-dyn g z).holding z.1)) c.args.self.now.versions) _
    (beside_sound (kept_by c.args.self.now (λ z. (goal.Segment-dyn g z).holding z.1)) (with_versions (core.kept_by c.settle.new.self (λ z. (goal.Segment-dyn g z).holding z.1)) c.args.self.now.versions) c.requires.sound c.settle.ensures.sound c.settle.ensures.sequel.follows.continues refl)
    c.in_ok-entries.ensures.steps refl c.in_ok-publish.ensures.leaves

pub returns-clause-sequel : goal.returns-clause-sequel
returns-clause-sequel g c = record {
  each_cut = c.publish.ensures.quiet.sound.base.stands;
  follows = shows_follows _ _ _ (beside_follows _ _ c.settle.ensures.sequel.follows refl) c.in_ok-publish.ensures.leaves;
  boxes = record { same = shows_roster _ _ c.in_ok-publish.ensures.leaves ∙ c.settle.ensures.sequel.boxes.same };
  noted = c.publish.ensures.quiet.noted ∙ c.settle.ensures.sequel.noted;
  may_leave = machine.left _ c.publish.ensures.quiet.sound;
}

pub returns-clause-goal : goal.returns-clause-goal
returns-clause-goal g c = record {
  base = rw (shows_core _ _ c.in_ok-publish.ensures.leaves) c.in_ok-entries.ensures.goal;
  settles = settle_shows (kept_by c.args.self.now (λ z. (goal.Segment-dyn g z).holding z.1))
      (core.kept_by c.settle.new.self (λ z. (goal.Segment-dyn g z).holding z.1)) (core.lanes_of c.settle.new.self)
      (core.away_in c.settle.new.self) _ c.in_ok-entries.ensures.goal.settles c.in_ok-publish.ensures.leaves;
  published = shows_all _ _ c.in_ok-entries.ensures.goal.last_cut c.in_ok-publish.ensures.leaves;
}
