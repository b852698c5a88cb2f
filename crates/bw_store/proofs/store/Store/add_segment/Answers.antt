use Rattle.std.proofs.Common.{refl}
use Rattle.bw_core.specs.Views as core
use Rattle.bw_store.specs.Kept.{with_versions}
use Rattle.bw_store.specs.Views.{kept_beside}
use Rattle.bw_store.proofs.Later.{beside_sound}
use Rattle.bw_store.proofs.Showing.{beside_follows}
use Rattle.bw_store.proofs.store.Store.add_segment.Goals as goal

pub returns-clause-sound : goal.returns-clause-sound
returns-clause-sound g c =
    beside_sound (kept_beside c.args.self.now (λ b. (goal.Segment-dyn g (b.vtable, b.value)).holding b.value))
    (with_versions (core.kept_beside c.add_segment.new.self (λ b. (goal.Segment-dyn g (b.vtable, b.value)).holding b.value)) c.args.self.now.versions)
    c.requires c.add_segment.ensures.sound c.add_segment.ensures.follows.continues refl

pub returns-clause-follows : goal.returns-clause-follows
returns-clause-follows g c = beside_follows _ _ c.add_segment.ensures.follows refl
