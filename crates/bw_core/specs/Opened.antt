-- A store that was just opened.

use Rattle.std.specs.Prelude.{ℕ, ◌≡◌, ◌⊎◌, List, [], ◌∷◌, map, replicate}
use Rattle.bw_record.specs.declared.block.Place.{Place}
use Rattle.bw_leaf.specs.Changed.{empty_leaf}
use Rattle.bw_page.specs.Shown.{Shown}
use Rattle.bw_buffer.specs.Filling.{Filling}
use Rattle.bw_device.specs.Holding.{Holding}
use Rattle.bw_ring.specs.declared.feed.Feed.{Feed}
use Rattle.bw_ring.specs.Ends.{Ring, accepted, places_of, ring_of_feed}
use Rattle.bw_log.specs.Contents.{Contents}
use Rattle.bw_log.specs.Limits.{fresh, IsFit}
use Rattle.bw_making.specs.Begun.{first_making, first_place}
use Rattle.bw_terms.specs.declared.config.Config.{Config}
use Rattle.bw_core.specs.declared.origin.Edge.{Edge}
use Rattle.bw_history.specs.declared.entry.Entry.{Entry}
use Rattle.bw_terms.specs.declared.fault.StoreFault.{StoreFault}
use Rattle.bw_terms.specs.declared.fault.StoreFault.TheVariants.{NoMemory, BadConfig}
use Rattle.bw_terms.specs.Ranges.{AreWriters}
use Rattle.bw_core.specs.Kept.{Kept, filed_of}

-- one empty page
abbrev pub one_empty : ℕ → Shown
one_empty m = record { m = m; leaves = empty_leaf ∷ []; evicted = [] }

abbrev pub no_edge : Edge
no_edge = record { segment = 0; length = 0 }

-- a store that starts with these, at these pages
abbrev pub started : List Ring → List Entry → Shown → List Place → Filling → Contents → Kept
started rings entries filed newest making log = record {
  rings = rings;
  start = filed.leaves;
  before = 0;
  floor = 0;
  edge = no_edge;
  entries = entries;
  cuts = [];
  durable = 0;
  filed = filed_of filed;
  newest = newest;
  making = making;
  log = log;
}

-- a store of one empty page over spares only
abbrev pub opened : List Ring → ℕ → ℕ → List Holding → Kept
opened rings m f spares = started rings [] (one_empty m) (first_place ∷ []) (first_making f) (fresh m f spares)

-- ---- what a store is opened with

-- the boxes are spares that a log of these limits takes
abbrev pub AreTaken : Config → List Holding → Type 0
AreTaken c boxes = AreWriters c × IsFit c.m c.f boxes

-- an unused feed for each writer
pub record AreUnused (writers places : ℕ) (feeds : List Feed) : Type 0 where
  pub nothing : map accepted feeds ≡ replicate writers []
  pub rooms : map places_of (map ring_of_feed feeds) ≡ replicate writers places

abbrev pub AreFresh : Config → List Feed → Type 0
AreFresh c feeds = AreUnused c.writers c.places feeds

-- why no store was made of what was handed in, which is looked at before memory is
abbrev pub IsUnmade : Type 0 → StoreFault → Type 0
IsUnmade Fits cause = ((cause ≡ BadConfig) × (Fits → ⊥)) ⊎ ((cause ≡ NoMemory) × Fits)

abbrev pub IsOpenFault : Config → List Holding → StoreFault → Type 0
IsOpenFault c boxes cause = IsUnmade (AreTaken c boxes) cause
