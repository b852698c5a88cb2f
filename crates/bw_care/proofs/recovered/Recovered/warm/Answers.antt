use Rattle.std.proofs.Common.{refl}
use Rattle.bw_care.proofs.Warmed.{recovered_since, unread_sound, unread_kept}
use Rattle.bw_care.proofs.recovered.Recovered.warm.Goals as goal

pub returns-in-Err-clause-still : goal.returns-in-Err-clause-still
returns-in-Err-clause-still g c =
    recovered_since (λ b. (goal.Segment-dyn g (b.vtable, b.value)).holding b.value) c.args.self _ c.requires
    (unread_sound _ _ _ c.in-Err.cause c.requires.sound c.in-Err.ensures.ends)
    (unread_kept _ _ _ c.in-Err.cause c.in-Err.ensures.ends)
    (record { m = c.in-Err.ensures.m; leaves = c.in-Err.ensures.leaves; first = refl; last = refl; tail = refl; dropped = refl })
