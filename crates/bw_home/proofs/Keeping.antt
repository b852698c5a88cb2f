-- What letting pages leave memory, and writing some again, does to a home.

use Rattle.std.proofs.Common.{◌≡◌, ◌∙◌, map, ap, sym, subst}
use Rattle.std.specs.declared.alloc.Global.{Global}
use Rattle.std.specs.declared.vec.Vec.{Vec}
use Rattle.bw_device.specs.Holding.{Holding}
use Rattle.bw_ring.specs.Ends.{ring_of_feed}
use Rattle.bw_ring.specs.declared.feed.Feed.{Feed}
use Rattle.bw_core.specs.Kept.{Kept, IsSound}
use Rattle.bw_core.proofs.FollowMore.{follow_then, follows_as}
use Rattle.bw_home.specs.Keeping.{KeepsEntries}
use Rattle.bw_home.specs.Maps.{StaysMap}
use Rattle.bw_home.specs.Ready.{kept_in, IsReady}
use Rattle.bw_home.specs.declared.home.Home.{Home}
use Rattle.bw_home.proofs.Cuts.{stays_as}

module _ {I : Type 0} {H : I → Type 0} where
  -- what the store keeps is the same
  pub keeps_same : (old new : Home I H) (v : (i : I) × H i → Holding) → IsReady old v → IsSound (kept_in new v) → new.feeds ≡ old.feeds
      → kept_in new v ≡ kept_in old v → KeepsEntries old new v
  keeps_same old new v was sound feeds same =
      let turned = follows_as (kept_in old v) (kept_in new v) same in
      record {
        ready = record {
          sound = sound;
          feeds = ap (λ (f : Vec Feed Global). map ring_of_feed f.items) feeds ∙ was.feeds ∙ sym (ap (λ (s : Kept). s.rings) same);
        };
        feeds = feeds;
        entries = ap (λ (s : Kept). s.entries) same;
        follows = turned.follows;
        boxes = turned.boxes;
      }

  -- one such step after another
  pub keeps_then : (a b c : Home I H) (v : (i : I) × H i → Holding) → KeepsEntries a b v → KeepsEntries b c v → KeepsEntries a c v
  keeps_then a b c v one two = record {
    ready = two.ready;
    feeds = two.feeds ∙ one.feeds;
    entries = two.entries ∙ one.entries;
    follows = follow_then _ _ _ one.follows two.follows;
    boxes = record { same = two.boxes.same ∙ one.boxes.same };
  }

  -- and the map is what it was
  pub keeps_map : (old new : Home I H) (v : (i : I) × H i → Holding) → IsReady old v → KeepsEntries old new v → StaysMap old new v
  keeps_map old new v was its = stays_as old new v was.sound its.ready.sound its.follows.continues its.feeds its.entries
