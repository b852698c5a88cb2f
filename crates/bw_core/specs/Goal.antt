-- The goal: what a settlement promises if it answers Ok.

use Rattle.std.specs.Prelude.{ℕ, ◌≡◌, ◌<◌, List, length, map}
use Rattle.std.specs.List.{AllByRecursion}
use Rattle.bw_page.specs.Leaves.{pages}
use Rattle.bw_page.specs.Standing.{Stand}
use Rattle.bw_ring.specs.declared.feed.Feed.{Feed}
use Rattle.bw_ring.specs.Ends.{accepted, ring_of_feed}
use Rattle.bw_log.specs.Contents.{counted, image, limits_of}
use Rattle.bw_log.specs.Segments.{AreLive}
use Rattle.bw_history.specs.Entries.{records}
use Rattle.bw_history.specs.History.{streams}
use Rattle.bw_core.specs.Following.{Follows, HasBoxes}
use Rattle.bw_core.specs.Kept.{EachCutStands, Kept, TellsShare}
use Rattle.bw_core.specs.Machine.{MayBeStopped}
use Rattle.bw_core.specs.Noted.{Noted}
use Rattle.bw_core.specs.Settled.{IsAllCut}
use Rattle.bw_core.specs.Settling.{Settles}

-- these feeds were heard, and the store was settled
pub record Goal (feeds : List Feed) (old new : Kept) (told : ℕ) : Type 0 where
  -- each writer's records in the history are exactly those that its feed accepted, each once, in its order
  pub exactly : streams 0 (length feeds) new.entries ≡ map accepted feeds
  pub writers : AllByRecursion (λ e. e.writer < length feeds) new.entries
  -- the last cut is the whole history, and each counted frame says its share
  pub last_cut : IsAllCut new
  pub shares : AllByRecursion (λ f. new.before < f.number → TellsShare new f) (counted new.log)
  -- each live segment is whole; those of format 1 come first and have one frame limit
  pub whole : (old_f : ℕ) × AreLive (limits_of (image new.log) old_f) new.log.number (image new.log).bytes
  -- the counted frames stand for the pages of the history
  pub stand : Stand new.log.m (counted new.log) (pages new.log.m new.start (records new.entries))
  pub answer : told ≡ length new.entries
  -- all waiting groups were taken, and then a flush appended them
  pub settles : Settles old new

-- the feeds have what they had
pub record SameFeeds (old new : List Feed) : Type 0 where
  pub ends : map ring_of_feed new ≡ map ring_of_feed old
  pub accepted : map accepted new ≡ map accepted old

-- what no call takes back, whatever its answer; and a stop after it, or in the middle of its last
-- append, leaves a whole store
pub record Sequel (old new : Kept) (was now : Noted) : Type 0 where
  pub each_cut : EachCutStands new
  pub follows : Follows old new
  pub boxes : HasBoxes old new
  pub noted : now ≡ was
  pub may_leave : MayBeStopped new

-- ---- the goal, clause by clause

-- each line of the record by itself, without its name
abbrev pub EachLineFollows : Type 0
EachLineFollows = (feeds : List Feed) (old new : Kept) (told : ℕ) → Goal feeds old new told →
    (streams 0 (length feeds) new.entries ≡ map accepted feeds)
    × AllByRecursion (λ e. e.writer < length feeds) new.entries
    × IsAllCut new
    × AllByRecursion (λ f. new.before < f.number → TellsShare new f) (counted new.log)
    × ((old_f : ℕ) × AreLive (limits_of (image new.log) old_f) new.log.number (image new.log).bytes)
    × Stand new.log.m (counted new.log) (pages new.log.m new.start (records new.entries))
    × (told ≡ length new.entries)
    × Settles old new
