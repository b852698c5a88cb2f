use Rattle.std.proofs.Common.{List, sym, ap, ◌∙◌, subst, arith, map}
use Rattle.bw_ring.specs.Ends.{ring_of_lane}
use Rattle.bw_care.specs.Views.{seen}
use Rattle.bw_history.specs.declared.entry.Entry.{Entry}
use Rattle.bw_core.specs.Kept as kept
use Rattle.bw_core.specs.Reopened.{reopened}
use Rattle.bw_core.proofs.ReopenedMore.{found_by, all_there, reopened_sound}
use Rattle.bw_core.proofs.Relived.{begins_over}
use Rattle.bw_core.proofs.store.Core.reopen.Goals as goal

pub ends_of-requires-clause-there : goal.ends_of-requires-clause-there
ends_of-requires-clause-there g c =
    let log = seen c.args.recovered.log (λ z. (goal.Segment-dyn g z).holding z.1) in
    let found = found_by (λ b. (goal.Segment-dyn g (b.vtable, b.value)).holding b.value) c.args.recovered c.requires in
    λ p from to. (let count = c.count-pages.ensures.value in all_there log c.args.recovered.leaves c.args.recovered.last found p from (omega arith))

pub returns-in-Ok-clause-sound : goal.returns-in-Ok-clause-sound
returns-in-Ok-clause-sound g c =
    let log = seen c.args.recovered.log (λ z. (goal.Segment-dyn g z).holding z.1) in
    let found = found_by (λ b. (goal.Segment-dyn g (b.vtable, b.value)).holding b.value) c.args.recovered c.requires in
    let count = c.count-pages.ensures.value in
    let e = c.in-Ok.ensures in
    subst kept.IsSound
    (sym (c.begun.ensures.store ∙ ap (λ (es : List Entry). record (reopened (map ring_of_lane c.in-Ok.ends.intake.lanes.items) c.args.recovered.last
    c.args.recovered.leaves c.in-Ok.ends.newest.items c.in-Ok.ends.making log) { entries = es }) e.history))
    (reopened_sound log c.args.recovered.leaves c.args.recovered.last found (map ring_of_lane c.in-Ok.ends.intake.lanes.items)
    c.in-Ok.ends.newest.items c.in-Ok.ends.making (e.count ∙ count) (λ p from to. e.each p from (omega arith)) (e.limit ∙ c.limit-2.ensures)
    e.empty e.unsealed e.number)

pub returns-in-Ok-clause-begins : goal.returns-in-Ok-clause-begins
returns-in-Ok-clause-begins g c = λ held is. (
    let log = seen c.args.recovered.log (λ z. (goal.Segment-dyn g z).holding z.1) in
    begins_over (λ b. (goal.Segment-dyn g (b.vtable, b.value)).holding b.value) held c.args.recovered _ _ _ _ is
    (c.begun.ensures.store ∙ ap (λ (es : List Entry). record (reopened (map ring_of_lane c.in-Ok.ends.intake.lanes.items) c.args.recovered.last
    c.args.recovered.leaves c.in-Ok.ends.newest.items c.in-Ok.ends.making log) { entries = es }) c.in-Ok.ensures.history))
