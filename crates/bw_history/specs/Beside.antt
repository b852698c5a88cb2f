-- What a look at both ends of rings leaves.

use Rattle.std.specs.Prelude.{◌≡◌, List, length, map}
use Rattle.bw_ring.specs.Ends.{accepted, taken, ring_of_feed, ring_of_lane}
use Rattle.bw_ring.specs.declared.feed.Feed.{Feed}
use Rattle.bw_ring.specs.declared.lane.Lane.{Lane}

-- the rings are the same, and nothing was taken or accepted
pub record KeepsRings (lanes : List Lane) (feeds : List Feed) (new_lanes : List Lane) (new_feeds : List Feed) : Type 0 where
  pub count : length new_lanes ≡ length lanes
  pub rings : map ring_of_lane new_lanes ≡ map ring_of_lane lanes
  pub same_taken : map taken new_lanes ≡ map taken lanes
  pub same_feeds : map ring_of_feed new_feeds ≡ map ring_of_feed feeds
  pub same_accepted : map accepted new_feeds ≡ map accepted feeds
