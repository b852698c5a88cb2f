use Rattle.std.proofs.Common.{refl}
use Rattle.bw_care.proofs.Warmed.{recovered_since, unread_sound, unread_kept}
use Rattle.bw_care.proofs.recovered.Recovered.page.Goals as goal

pub returns-in_err-read-clause-asked : goal.returns-in_err-read-clause-asked
returns-in_err-read-clause-asked g c =
    record {
      recovered = recovered_since (λ b. (goal.Segment-dyn g (b.vtable, b.value)).holding b.value) c.args.self.now _ c.requires
          (unread_sound _ _ _ c.in_err-read.field-0.0 c.requires.sound c.in_err-read.ensures.ends)
          (unread_kept _ _ _ c.in_err-read.field-0.0 c.in_err-read.ensures.ends)
          (record { m = refl; leaves = refl; first = refl; last = refl; tail = refl; dropped = refl });
      same = record { m = refl; leaves = refl; first = refl; last = refl; tail = refl; dropped = refl };
      evicted = refl;
    }
