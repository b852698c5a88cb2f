use Rattle.std.proofs.Common.{List, [], ◌∷◌, ◌++◌, ◌∙◌, ap, sym, append_assoc}
use denote.Param.Object.{read_made}
use Rattle.bw_device.specs.Holding.{Holding}
use Rattle.bw_device.specs.Memory.{memory_holding}
use Rattle.bw_device.specs.declared.memory.MemSegment.{MemSegment}
use Rattle.bw_reading.proofs.Handed.{pushed}
use Rattle.bw_reading.proofs.segments.pages_in_copies.OwnLists.{own-1, entry-1-1, at-1-1, same-1-1}
use Rattle.bw_reading.proofs.segments.pages_in_copies.Goals as goal

-- a box that is made of a copy holds what the copy holds
pub loop-copy-preserved : goal.loop-copy-preserved
loop-copy-preserved c =
    let held = read_made own-1 entry-1-1 at-1-1 same-1-1 Holding (λ j y. j.1.holding y) c.into_dyn_box.result.vtable c.into_dyn_box.result.value
    c.in_ok-new.field-0.value c.into_dyn_box.ensures.1 in
    let copied = c.in_ok-new.ensures {u = tt} in
    let next = c.in-Some.ensures {u = tt} in
    let more = c.in_ok-push.ensures {u = tt} in
    record {
      read = pushed (λ b. (own-1.entry b.vtable).1.holding b.value) memory_holding c.loop-copy.boxes.items c.push.new.self.items c.into_dyn_box.result
          c.loop-copy.yielded c.in-Some.copy more.items (held ∙ ap memory_holding copied.ok) c.loop-copy.invariant.read;
      left = append_assoc c.loop-copy.yielded (c.in-Some.copy ∷ []) c.next.new.self.rest.items
          ∙ ap (λ (cs : List MemSegment). c.loop-copy.yielded ++ cs) (sym next.steps.0) ∙ c.loop-copy.invariant.left;
    }
