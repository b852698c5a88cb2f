use Rattle.std.proofs.Common.{refl, ap, ◌∙◌}
use Rattle.bw_history.specs.History.{cut}
use Rattle.bw_core.specs.Kept as core_kept
use Rattle.bw_core.specs.Views as core
use Rattle.bw_store.specs.Kept.{with_versions}
use Rattle.bw_store.specs.Views.{kept_by}
use Rattle.bw_store.proofs.Forwards.{forgets_known}
use Rattle.bw_store.proofs.Later.{beside_sound}
use Rattle.bw_store.proofs.Readers.{known_within}
use Rattle.bw_store.proofs.Showing.{beside_follows}
use Rattle.bw_store.proofs.store.Store.forget.Goals as goal

pub returns-clause-sound : goal.returns-clause-sound
returns-clause-sound g c =
    beside_sound (kept_by c.args.self.now (λ z. (goal.Segment-dyn g z).holding z.1))
    (with_versions (core.kept_by c.forget_upto.new.self (λ z. (goal.Segment-dyn g z).holding z.1)) c.args.self.now.versions)
    c.requires c.forget_upto.ensures.sound c.forget_upto.ensures.follows.continues refl

pub returns-clause-same : goal.returns-clause-same
returns-clause-same g c = ap (λ (k : core_kept.Kept). with_versions k c.args.self.now.versions) c.forget_upto.ensures.same

pub returns-clause-follows : goal.returns-clause-follows
returns-clause-follows g c = beside_follows _ _ c.forget_upto.ensures.follows refl

pub returns-clause-shown : goal.returns-clause-shown
returns-clause-shown g c =
    let s = kept_by c.args.self.now (λ z. (goal.Segment-dyn g z).holding z.1) in
    let at = ap (λ (k : core_kept.Kept). cut k.cuts k.durable) c.forget_upto.ensures.same in
    forgets_known _ _ _ _ (cut s.cuts s.durable) _ c.forget_upto.ensures.upto at c.entered-known.ensures c.args.self.now.forgotten
    (known_within s (cut s.cuts s.durable) c.requires refl) ∙ c.entered-known.ensures
