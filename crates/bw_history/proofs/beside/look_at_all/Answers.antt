use Rattle.std.proofs.Common.{List, refl, ap, ◌∙◌, arith, ◌+◌, [], length, map, take, set, get_or}
use Rattle.bw_ring.specs.Ends.{accepted, given}
use Rattle.bw_ring.specs.declared.feed.Feed.{Feed}
use Rattle.bw_ring.specs.declared.lane.Lane.{Lane}
use Rattle.bw_history.specs.Beside.{KeepsRings}
use Rattle.bw_history.proofs.Laned.{as_long, shorter, whole_more, whole_end}
use Rattle.bw_history.proofs.beside.look_at_all.Goals as goal

kept_on : {lanes more new : List Lane} {feeds more_feeds new_feeds : List Feed} → KeepsRings more more_feeds new new_feeds
    → KeepsRings lanes feeds more more_feeds → KeepsRings lanes feeds new new_feeds
kept_on e i = record {
  count = e.count ∙ i.count;
  rings = e.rings ∙ i.rings;
  same_taken = e.same_taken ∙ i.same_taken;
  same_feeds = e.same_feeds ∙ i.same_feeds;
  same_accepted = e.same_accepted ∙ i.same_accepted;
}

pub rings-init : goal.rings-init
rings-init c = record {
  kept = record { count = refl; rings = refl; same_taken = refl; same_feeds = refl; same_accepted = refl };
  len = refl;
  whole = refl;
}

pub rings-preserved : goal.rings-preserved
rings-preserved c =
    let i = c.rings.invariant in
    let e = c.look_at.ensures in
    let long = as_long _ c.rings.lanes.items c.args.feeds.now.items c.requires i.kept.count in
    let inside = c.rings-test.true in
    let shown = ap length c.as_slice-count.ensures.value in
    record {
      kept = kept_on e.kept i.kept;
      len = e.len ∙ i.len;
      whole =
          ap (take (c.rings.at + 1)) (e.given ∙ ap (λ ys. set (map given c.rings.lanes.items) c.rings.at (get_or ys c.rings.at [])) i.kept.same_accepted)
          ∙ whole_more (map given c.rings.lanes.items) (map accepted c.args.feeds.now.items) c.rings.at (c.rings.at + 1) (omega arith)
          (shorter given accepted c.rings.lanes.items c.args.feeds.now.items (omega arith)) i.whole refl;
    }

pub returns-clause-whole : goal.returns-clause-whole
returns-clause-whole c =
    let i = c.rings.invariant in
    let long = as_long _ c.rings.lanes.items c.args.feeds.now.items c.requires i.kept.count in
    let end = c.rings-test.false in
    let shown = ap length c.as_slice-count.ensures.value in
    whole_end (map given c.rings.lanes.items) (map accepted c.args.feeds.now.items) c.rings.at
    (shorter given accepted c.rings.lanes.items c.args.feeds.now.items (omega arith)) (omega arith) i.whole
