-- A store that was just opened, over empty segments or over what was recovered.

use Rattle.std.specs.Prelude.{ℕ, ◌≤◌, ◌≡◌, ◌⊎◌, List, []}
use Rattle.bw_record.specs.declared.block.Place.{Place}
use Rattle.bw_page.specs.Shown.{Shown}
use Rattle.bw_buffer.specs.Filling.{Filling}
use Rattle.bw_device.specs.Holding.{Holding}
use Rattle.bw_ring.specs.Ends.{Ring}
use Rattle.bw_ring.specs.declared.feed.Feed.{Feed}
use Rattle.bw_log.specs.Contents.{Contents}
use Rattle.bw_log.specs.Limits.{IsFit}
use Rattle.bw_versions.specs.Versioned.{Versioned}
use Rattle.bw_terms.specs.declared.fault.StoreFault.{StoreFault}
use Rattle.bw_terms.specs.declared.fault.StoreFault.TheVariants.{Device, Spent}
use Rattle.bw_core.specs.Opened.{AreUnused, IsUnmade}
use Rattle.bw_core.specs.Opened as core
use Rattle.bw_terms.specs.Ranges as terms
use Rattle.bw_core.specs.Reopened as core_again
use Rattle.bw_store.specs.Kept.{Kept, with_versions}
use Rattle.bw_store.specs.declared.config.Config.{Config}

-- a store of one empty page over spares only
abbrev pub opened : List Ring → ℕ → ℕ → List Holding → Versioned → Kept
opened rings m f spares versions = with_versions (core.opened rings m f spares) versions

-- these pages, all of them in memory
abbrev pub in_memory : Shown → Shown
in_memory s = record s { evicted = [] }

-- a store that starts with what was recovered, up to this frame, and has no history
abbrev pub reopened : List Ring → ℕ → Shown → List Place → Filling → Contents → Versioned → Kept
reopened rings last filed newest making log versions =
    with_versions (core_again.reopened rings last filed newest making log) versions

-- ---- what a store is opened with

-- so many writers with rings of so many places each, 1 to 64 and 1 to 4,096, and 1 to 64 places for readers
abbrev pub AreEnds : ℕ → ℕ → ℕ → Type 0
AreEnds writers places readers = terms.AreEnds writers places × (1 ≤ readers) × (readers ≤ 64)

abbrev pub AreWriters : Config → Type 0
AreWriters c = AreEnds c.writers c.places c.readers

-- the boxes are spares that a log of these limits takes
abbrev pub AreTaken : Config → List Holding → Type 0
AreTaken c boxes = AreWriters c × IsFit c.m c.f boxes

-- an unused feed for each writer
abbrev pub AreFresh : Config → List Feed → Type 0
AreFresh c feeds = AreUnused c.writers c.places feeds

-- why no store was made
abbrev pub IsOpenFault : Config → List Holding → StoreFault → Type 0
IsOpenFault c boxes cause = IsUnmade (AreTaken c boxes) cause

-- a segment failed, or no more failure of it could be counted
abbrev pub IsUnread : StoreFault → Type 0
IsUnread cause = ((lease : ℕ) × (cause ≡ Device lease)) ⊎ (cause ≡ Spent)

-- a number is out of its range, memory ran out, or a page could not be read
abbrev pub IsReopenFault : ℕ → ℕ → ℕ → StoreFault → Type 0
IsReopenFault writers places readers cause =
    IsUnmade (AreEnds writers places readers) cause ⊎ (AreEnds writers places readers × IsUnread cause)
