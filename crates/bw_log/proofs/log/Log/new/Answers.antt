use Rattle.std.proofs.Common.{refl}
use Rattle.bw_log.proofs.Fields.{new_sound}
use Rattle.bw_log.proofs.log.Log.new.Goals as goal

pub returns-clause-sound : goal.returns-clause-sound
returns-clause-sound g c =
    new_sound _ _ _ _ (rw (c.new.ensures.items, c.new-2.ensures.items, c.new-3.ensures.items, c.deref.ensures.value) refl) (c.if-not-are_fit.ensures.0 refl)
