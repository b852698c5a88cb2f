use Rattle.bw_core.proofs.Fresh.{started_sound, taken_at}
use Rattle.bw_core.proofs.store.Core.open.Goals as goal

pub returns-in-Ok-new-clause-sound : goal.returns-in-Ok-new-clause-sound
returns-in-Ok-new-clause-sound g c = started_sound _ _ _ _ _ _ _ _ _ c.begun.ensures.store c.in-Ok.ensures.history c.in-Ok.ensures.leaves c.in-Ok.ensures.newest
    c.in-Ok.ensures.making c.in-Ok-new.ensures.made c.in-Ok-new.ensures.sound

pub returns-in-Ok-new-clause-bad_config : goal.returns-in-Ok-new-clause-bad_config
returns-in-Ok-new-clause-bad_config g c = taken_at c.args.config.now _ _ _ (c.are_taken.ensures.0 c.if-not-are_taken.false) c.deref.ensures.value

pub returns-in-Err-new-clause-bad_config : goal.returns-in-Err-new-clause-bad_config
returns-in-Err-new-clause-bad_config g c =
    let taken = taken_at c.args.config.now _ _ _ (c.are_taken.ensures.0 c.if-not-are_taken.false) c.deref.ensures.value in
    absurd (c.in-Err-new.ensures.bad_config.1 taken.1)
