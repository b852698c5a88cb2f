use Rattle.std.proofs.Common.{take, map}
use Rattle.std.specs.List.{AllByRecursion}
use Rattle.bw_device.specs.Boxes.{IsSpareOf}
use Rattle.bw_device.proofs.boxes.are_spares.Given as goal

abbrev pub invariant-loop-one : goal.invariant-loop-one
invariant-loop-one g l = AllByRecursion (IsSpareOf l.least) (map (λ b. (goal.Segment-dyn g (b.vtable, b.value)).holding b.value) (take l.one-index l.all))
