use Rattle.std.specs.Prelude.{◌≡◌, drop}
use Rattle.bw_rescue.specs.Alike.{bytes_at}
use Rattle.bw_rescue.proofs.alike.bytes_at.Given as goal

abbrev pub invariant-loop-image : goal.invariant-loop-image
invariant-loop-image l = bytes_at l.lease l.images ≡ bytes_at l.lease (drop l.image-index l.images)
