use Rattle.std.proofs.Common.{List, Vec, Global, map, refl, ap, ◌∙◌, arith}
use Rattle.bw_ring.specs.Ends.{ring_of_lane}
use Rattle.bw_ring.specs.declared.lane.Lane.{Lane}
use Rattle.bw_history.specs.declared.entry.Entry.{Entry}
use Rattle.bw_core.specs.Kept.{Kept}
use Rattle.bw_core.specs.Views.{kept_by}
use Rattle.bw_core.proofs.FollowMore.{follows_as}
use Rattle.bw_core.proofs.Forgetting.{end_within}
use Rattle.bw_core.proofs.store.Core.forget_upto.Goals as goal

pub returns-then-known-gone-clause-follows : goal.returns-then-known-gone-clause-follows
returns-then-known-gone-clause-follows g c = (follows_as _ _ refl).follows

pub forget-requires-clause-within : goal.forget-requires-clause-within
forget-requires-clause-within g c =
    let within = end_within (kept_by c.args.self.now (λ z. (goal.Segment-dyn g z).holding z.1)) c.durable_end-last.result c.requires c.durable_end-last.ensures.value in
    let least = c.min-known.ensures in
    omega arith

pub returns-clause-follows : goal.returns-clause-follows
returns-clause-follows g c =
    let s = kept_by c.args.self.now (λ z. (goal.Segment-dyn g z).holding z.1) in
    let made = c.forget.new.self in
    (follows_as _ _ (
    ap (λ (ls : Vec Lane Global). let k : Kept = record s { rings = map ring_of_lane ls.items; entries = made.history.items } in k) c.forget.ensures.lanes
    ∙ ap (λ (es : List Entry). let k : Kept = record s { entries = es } in k) c.forget.ensures.items)).follows
