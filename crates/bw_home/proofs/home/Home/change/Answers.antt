use Rattle.std.proofs.Common.{◌≡◌, List, [], length, refl, sym, ap, ◌∙◌, arith}
use Rattle.std.specs.Prelude.{slice_index_or}
use Rattle.bw_ring.specs.Marks.{Marked}
use Rattle.bw_core.proofs.FollowMore.{follow_then, follows_as}
use Rattle.bw_home.proofs.Cuts.{changed_in, first_more, later_in, later_same}
use Rattle.bw_home.proofs.Maps.{now_put, put_changes, same_count}
use Rattle.bw_home.proofs.home.Home.change.Goals as goal

pub returns-then-len-ne1-clause-follows : goal.returns-then-len-ne1-clause-follows
returns-then-len-ne1-clause-follows g c = (follows_as _ _ refl).follows

pub returns-then-len-ne1-clause-cuts : goal.returns-then-len-ne1-clause-cuts
returns-then-len-ne1-clause-cuts g c = λ is. later_same _ _

pub returns-in-Err-clause-map : goal.returns-in-Err-clause-map
returns-in-Err-clause-map g c =
    let ends = c.queue.ensures.ready.feeds ∙ c.queue.ensures.follows.continues.rings ∙ sym c.requires.feeds in
    λ is. record { one = same_count _ _ ends is.one; heard = c.in-Err.ensures.heard }

pub returns-in-Err-clause-cuts : goal.returns-in-Err-clause-cuts
returns-in-Err-clause-cuts g c =
    let ends = c.queue.ensures.ready.feeds ∙ c.queue.ensures.follows.continues.rings ∙ sym c.requires.feeds in
    λ is. later_in c.args.self.now c.queue.new.self (λ z. (goal.Segment-dyn g z).holding z.1) c.requires.sound c.queue.ensures.ready.sound c.queue.ensures.follows.continues c.in-Err.ensures.unchanged
    (record { one = same_count _ _ ends is.one; heard = c.in-Err.ensures.heard })

pub returns-in-Ok-clause-changed : goal.returns-in-Ok-clause-changed
returns-in-Ok-clause-changed g c =
    let told = c.len.ensures in
    let is = c.if-len-ne1.false in
    let one : length c.args.self.now.feeds.items ≡ 1 = omega arith in
    let start = c.take_all.ensures.sequel.follows.continues.start ∙ c.queue.ensures.follows.continues.start in
    let rings = c.take_all.ensures.ready.feeds ∙ c.take_all.ensures.sequel.follows.continues.rings ∙ c.queue.ensures.follows.continues.rings
    ∙ sym c.requires.feeds in
    let put = put_changes _ _ _ _ _ c.args.group start one c.in_default.ensures.added c.take_all.ensures.feeds.accepted in
    record {
      put = put;
      now = now_put c.take_all.new.self.store.origin.start.value.leaves _ _ (same_count _ _ rings one) c.in-Ok.ensures.exactly c.in-Ok.ensures.writers ∙ put;
    }

pub returns-in-Ok-clause-follows : goal.returns-in-Ok-clause-follows
returns-in-Ok-clause-follows g c = follow_then _ _ _ c.queue.ensures.follows c.take_all.ensures.sequel.follows

pub returns-in-Ok-clause-map : goal.returns-in-Ok-clause-map
returns-in-Ok-clause-map g c =
    let rings = c.take_all.ensures.ready.feeds ∙ c.take_all.ensures.sequel.follows.continues.rings ∙ c.queue.ensures.follows.continues.rings
    ∙ sym c.requires.feeds in
    λ is. record { one = same_count _ _ rings is.one; heard = c.take_all.ensures.heard }

pub returns-in-Ok-clause-cuts : goal.returns-in-Ok-clause-cuts
returns-in-Ok-clause-cuts g c =
    let rings = c.take_all.ensures.ready.feeds ∙ c.take_all.ensures.sequel.follows.continues.rings ∙ c.queue.ensures.follows.continues.rings
    ∙ sym c.requires.feeds in
    λ is. changed_in c.args.self.now c.take_all.new.self (λ z. (goal.Segment-dyn g z).holding z.1) c.args.group c.requires.sound c.take_all.ensures.ready.sound
    (follow_then _ _ _ c.queue.ensures.follows c.take_all.ensures.sequel.follows).continues
    (ap (λ (l : List (List Marked)). slice_index_or l 0 []) c.take_all.ensures.feeds.accepted ∙ first_more _ _ c.args.group is.one c.in_default.ensures.added)
    c.as_slice.ensures.few.0 is (record { one = same_count _ _ rings is.one; heard = c.take_all.ensures.heard })

pub returns-in-Err-take_all-clause-refused : goal.returns-in-Err-take_all-clause-refused
returns-in-Err-take_all-clause-refused g c =
    let told = c.len.ensures in
    let is = c.if-len-ne1.false in
    let one : length c.args.self.now.feeds.items ≡ 1 = omega arith in
    put_changes _ _ _ _ _ c.args.group (c.take_all.ensures.sequel.follows.continues.start ∙ c.queue.ensures.follows.continues.start) one
    c.in_default.ensures.added c.take_all.ensures.feeds.accepted

pub returns-in-Err-take_all-clause-follows : goal.returns-in-Err-take_all-clause-follows
returns-in-Err-take_all-clause-follows g c = follow_then _ _ _ c.queue.ensures.follows c.take_all.ensures.sequel.follows

pub returns-in-Err-take_all-clause-map : goal.returns-in-Err-take_all-clause-map
returns-in-Err-take_all-clause-map g c =
    let rings = c.take_all.ensures.ready.feeds ∙ c.take_all.ensures.sequel.follows.continues.rings ∙ c.queue.ensures.follows.continues.rings
    ∙ sym c.requires.feeds in
    λ is. record { one = same_count _ _ rings is.one; heard = c.take_all.ensures.heard }

pub returns-in-Err-take_all-clause-cuts : goal.returns-in-Err-take_all-clause-cuts
returns-in-Err-take_all-clause-cuts g c =
    let rings = c.take_all.ensures.ready.feeds ∙ c.take_all.ensures.sequel.follows.continues.rings ∙ c.queue.ensures.follows.continues.rings
    ∙ sym c.requires.feeds in
    λ is. changed_in c.args.self.now c.take_all.new.self (λ z. (goal.Segment-dyn g z).holding z.1) c.args.group c.requires.sound c.take_all.ensures.ready.sound
    (follow_then _ _ _ c.queue.ensures.follows c.take_all.ensures.sequel.follows).continues
    (ap (λ (l : List (List Marked)). slice_index_or l 0 []) c.take_all.ensures.feeds.accepted ∙ first_more _ _ c.args.group is.one c.in_default.ensures.added)
    c.as_slice.ensures.few.0 is (record { one = same_count _ _ rings is.one; heard = c.take_all.ensures.heard })
