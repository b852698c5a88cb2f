-- The goal: what a settlement promises if it answers Ok, and that readers see it.

use Rattle.std.specs.Prelude.{ℕ, ◌≡◌, Some, List}
use Rattle.bw_ring.specs.declared.feed.Feed.{Feed}
use Rattle.bw_versions.specs.Posted.{posted_of}
use Rattle.bw_core.specs.Goal as core
use Rattle.bw_core.specs.Noted.{Noted}
use Rattle.bw_store.specs.Following.{Follows, HasBoxes}
use Rattle.bw_store.specs.Kept.{EachCutStands, Kept, core_of, start_of}
use Rattle.bw_store.specs.Machine.{MayBeStopped}
use Rattle.bw_store.specs.Showing.{Settles}

-- these feeds were heard, and the store was settled
pub record Goal (feeds : List Feed) (old new : Kept) (told : ℕ) : Type 0 where
  -- each line of the core's goal
  pub base : core.Goal feeds (core_of old) (core_of new) told
  -- all waiting groups were taken, a flush appended them, and a publication shows them
  pub settles : Settles old new
  pub published : posted_of new.versions.published ≡ Some (record { start = start_of new; entries = new.entries })

-- what no call takes back, whatever its answer; and a stop after it, or in the middle of its last
-- append, leaves a whole store
pub record Sequel (old new : Kept) (was now : Noted) : Type 0 where
  pub each_cut : EachCutStands new
  pub follows : Follows old new
  pub boxes : HasBoxes old new
  pub noted : now ≡ was
  pub may_leave : MayBeStopped new
