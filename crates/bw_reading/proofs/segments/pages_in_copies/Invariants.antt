use Rattle.std.proofs.Common.{◌≡◌, ◌++◌, map}
use Rattle.bw_device.specs.Memory.{memory_holding}
use Rattle.bw_reading.proofs.segments.pages_in_copies.OwnLists.{own-1}
use Rattle.bw_reading.proofs.segments.pages_in_copies.Given as goal

-- No box stands in the signature, so no word reads one here: `own-1` has the types of the values that this function puts into boxes.
abbrev pub invariant-loop-copy : goal.invariant-loop-copy
invariant-loop-copy l = record {
  read : map (λ b. (own-1.entry b.vtable).1.holding b.value) l.boxes.items ≡ map memory_holding l.yielded;
  left : l.yielded ++ l.copy-iterator.rest.items ≡ l.fn.copies.items;
}
