-- What the last settle leaves if it answered Ok.

use Rattle.std.specs.Prelude.{ℕ, ◌≡◌, ◌<◌, Some, List, length, map}
use Rattle.std.specs.List.{AllByRecursion}
use Rattle.bw_ring.specs.declared.feed.Feed.{Feed}
use Rattle.bw_ring.specs.Ends.{accepted}
use Rattle.bw_log.specs.Contents.{counted}
use Rattle.bw_versions.specs.Posted.{posted_of}
use Rattle.bw_history.specs.History.{streams}
use Rattle.bw_store.specs.Kept.{Kept, TellsShare, start_of}
use Rattle.bw_store.specs.Showing.{IsSettled}

-- each accepted record is in the history exactly once, each writer's in its order, and in the segments
pub record HasSettled (s : Kept) (feeds : List Feed) (entries : ℕ) : Type 0 where
  -- each writer's records in the history are exactly what its feed accepted
  pub exactly : streams 0 (length feeds) s.entries ≡ map accepted feeds
  pub writers : AllByRecursion (λ e. e.writer < length feeds) s.entries
  -- the last cut is the whole history, each live segment is whole, and the counted frames stand for the pages of the history
  pub settled : IsSettled s
  pub shares : AllByRecursion (λ f. s.before < f.number → TellsShare s f) (counted s.log)
  pub answer : entries ≡ length s.entries
  -- readers see the start and all entries
  pub published : posted_of s.versions.published ≡ Some (record { start = start_of s; entries = s.entries })
