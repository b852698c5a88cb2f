use Rattle.std.proofs.Common.{length-set}
use Rattle.bw_ring.specs.Ends.{accepted, taken, ring_of_feed, ring_of_lane}
use Rattle.bw_history.proofs.Laned.{inside_too, ends_at, set_kept, look_given}
use Rattle.bw_history.proofs.beside.look_at.Goals as goal

pub look_one-requires : goal.look_one-requires
look_one-requires c =
    ends_at ring_of_feed ring_of_lane c.args.feeds.now.items c.args.lanes.now.items c.args.at c.index_mut-2.result.now c.index_mut.result.now
    c.requires.ends (inside_too ring_of_feed ring_of_lane _ _ _ c.requires.ends c.requires.inside) c.index_mut-2.ensures.value c.index_mut.ensures.value

pub returns-clause-kept : goal.returns-clause-kept
returns-clause-kept c =
    let lanes = c.args.lanes.now.items in
    let feeds = c.args.feeds.now.items in
    let e = c.look_one.ensures in
    let inside = inside_too ring_of_feed ring_of_lane _ _ _ c.requires.ends c.requires.inside in
    record {
      count = length-set lanes c.args.at c.look_one.new.lane;
      rings = set_kept ring_of_lane lanes c.args.at c.look_one.new.lane c.index_mut.result.now c.requires.inside c.index_mut.ensures.value e.ring;
      same_taken = set_kept taken lanes c.args.at c.look_one.new.lane c.index_mut.result.now c.requires.inside c.index_mut.ensures.value e.taken;
      same_feeds = set_kept ring_of_feed feeds c.args.at c.look_one.new.feed c.index_mut-2.result.now inside c.index_mut-2.ensures.value e.feed;
      same_accepted = set_kept accepted feeds c.args.at c.look_one.new.feed c.index_mut-2.result.now inside c.index_mut-2.ensures.value e.accepted;
    }

pub returns-clause-given : goal.returns-clause-given
returns-clause-given c =
    look_given c.args.lanes.now.items c.args.feeds.now.items c.args.at c.look_one.new.lane c.index_mut-2.result.now
    (inside_too ring_of_feed ring_of_lane _ _ _ c.requires.ends c.requires.inside) c.index_mut-2.ensures.value c.look_one.ensures.given
