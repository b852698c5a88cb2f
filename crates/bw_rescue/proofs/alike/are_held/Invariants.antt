use Rattle.std.specs.Prelude.{◌↔◌, drop}
use Rattle.bw_rescue.specs.Alike.{AreHeld}
use Rattle.bw_rescue.proofs.alike.are_held.Given as goal

abbrev pub invariant-loop-image : goal.invariant-loop-image
invariant-loop-image l = AreHeld l.others l.images ↔ AreHeld l.others (drop l.image-index l.images)
