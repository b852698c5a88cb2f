use Rattle.std.proofs.Common.{refl}
use Rattle.bw_care.proofs.PartedByKind.{put_there}
use Rattle.bw_care.proofs.boxes.part_one.Goals as goal

pub returns-in-Ok-clause-parted : goal.returns-in-Ok-clause-parted
returns-in-Ok-clause-parted g c =
    put_there _ (λ n. n.number) c.args.live.now.items c.insert.new.self.items _ c.in-Live.number c.place_of-place.result _ c.args.kind c.deref.result.now _
    (λ n. refl) c.in-Ok.ensures.items c.deref.ensures.value c.place_of-place.ensures.place refl c.in-Live.is
