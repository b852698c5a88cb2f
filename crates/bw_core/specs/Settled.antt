-- A store with nothing in the making.

use Rattle.std.specs.Prelude.{ℕ, ◌≡◌, length}
use Rattle.bw_page.specs.Leaves.{pages}
use Rattle.bw_page.specs.Standing.{Stand}
use Rattle.bw_log.specs.Contents as logs
use Rattle.bw_log.specs.Segments.{AreLive}
use Rattle.bw_history.specs.Entries.{records}
use Rattle.bw_history.specs.History.{cut}
use Rattle.bw_core.specs.Kept.{Kept}

-- each cut's frame was appended, and the last cut is the whole history, or there is none and no entry
abbrev pub IsAllCut : Kept → Type 0
IsAllCut s = (length s.cuts ≡ s.durable) × (cut s.cuts s.durable ≡ length s.entries)

-- the segments, read forwards, are the pages of the history, and every entry is in some frame; those of version 1 come
-- first and have one frame limit
pub record IsSettled (s : Kept) : Type 0 where
  pub stands : Stand s.log.m (logs.counted s.log) (pages s.log.m s.start (records s.entries))
  pub whole : (old_f : ℕ) × AreLive (logs.limits_of (logs.image s.log) old_f) s.log.number (logs.image s.log).bytes
  pub cut : IsAllCut s
