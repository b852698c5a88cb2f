use Rattle.std.proofs.Common.{map, is_some, arith, refl}
use Rattle.std.proofs.lemmas.List.{length-map}
use Rattle.bw_device.proofs.Desks.{only_frees_none, out_count_le, out_count-freed, only_frees-freed}
use Rattle.bw_device.proofs.leases.take_in.Goals as goal
use Rattle.bw_device.proofs.leases.take_in.Goals.{then-came_back, else-came_back}

pub loop-i-init : goal.loop-i-init
loop-i-init c = (omega arith, only_frees_none (map is_some c.args.slots.now))

pub overflow_add-freed : goal.overflow_add-freed
overflow_add-freed c = omega (arith, out_count_le (map is_some c.args.slots.now), length-map c.args.slots.now is_some)

pub loop-i-preserved : goal.loop-i-preserved
loop-i-preserved c = elim c.if-came_back.branch [
  | then-came_back w ↦ (
    omega (
      arith,
      w.freed-is,
      c.loop-i.invariant.0,
      out_count-freed c.loop-i.slots c.if-came_back.slots c.loop-i.i _ (omega arith) (w.if-came_back.ensures refl) w.slots-is,
    ),
    only_frees-freed _ c.loop-i.slots c.if-came_back.slots c.loop-i.i c.loop-i.invariant.1 w.slots-is,
  )
  | else-came_back w ↦ rw (w.slots-is, w.freed-is) c.loop-i.invariant
]
