-- Two lives of a store: the second begins over the boxes of the first.

use Rattle.std.specs.Prelude.{ℕ, ◌≡◌, ◌⊎◌, true, Err, List, take}
use Rattle.bw_device.specs.Holding.{Holding}
use Rattle.bw_page.specs.Leaves.{pages}
use Rattle.bw_ring.specs.Ends.{Ring}
use Rattle.bw_log.specs.Contents.{boxes}
use Rattle.bw_care.specs.Recovery.{recovery}
use Rattle.bw_lines.specs.declared.cause.RecoverCause.TheVariants.{Empty}
use Rattle.bw_history.specs.declared.entry.Entry.{Entry}
use Rattle.bw_history.specs.Entries.{records}
use Rattle.bw_history.specs.Machine.{Crash, MayLeave, after, begun}
use Rattle.bw_core.specs.Kept.{IsSound, Kept}
use Rattle.bw_core.specs.Machine.{machine_of}
use Rattle.bw_core.specs.Opened.{opened}
use Rattle.bw_core.specs.Reopened.{Begins}

pub record Relives (old new : Kept) : Type 0 where
  -- what the end of the first life left of its history
  pub left : List Entry
  pub may_leave : MayLeave (machine_of old) left
  -- that is what was durable, or, if an append failed, it may be all
  pub which : (left ≡ take (machine_of old).durable old.entries) ⊎ ((old.log.is_failed ≡ true) × (left ≡ old.entries))
  -- each receipt that was given is within it
  pub kept : take (machine_of old).durable left ≡ take (machine_of old).durable old.entries
  -- the second begins with the pages that these entries make, and so with their map
  pub start : new.start ≡ pages old.filed.m old.start (records left)
  pub machine : machine_of new ≡ begun (after (machine_of old).start left)
  -- its pages have the same limit
  pub pairs : new.filed.m ≡ old.filed.m
  -- over all boxes of the first, and nothing was taken in it yet
  pub begins : Begins (boxes old.log) new

-- whoever begins over the boxes of a store goes on with what its end left
abbrev pub BeginningsGoOn : Type 0
BeginningsGoOn = (old new : Kept) → IsSound old → Begins (boxes old.log) new → Relives old new

-- if nothing is found in them, nothing was kept: a store that is opened anew goes on with that
abbrev pub OpeningsGoOn : Type 0
OpeningsGoOn =
    (old : Kept) → IsSound old → recovery (boxes old.log) ≡ Err Empty → (rings : List Ring) (m f : ℕ) (spares : List Holding)
    → Crash (machine_of old) (machine_of (opened rings m f spares))
