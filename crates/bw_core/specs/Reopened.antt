-- A store that was just opened again.

use Rattle.std.specs.Prelude.{ℕ, ◌+◌, ◌-◌, ◌≡◌, false, Option, Some, None, Ok, List, [], length, slice_get}
use Rattle.bw_record.specs.declared.block.Place.{Place}
use Rattle.bw_page.specs.Shown.{Shown}
use Rattle.bw_buffer.specs.Filling.{Filling}
use Rattle.bw_ring.specs.Ends.{Ring}
use Rattle.bw_log.specs.Contents.{Contents}
use Rattle.bw_log.specs.Segments.{following}
use Rattle.bw_care.specs.Recovery.{Finding, ends_whole, limit_in, live_in, pairs_in, recovery, spares_in}
use Rattle.bw_device.specs.Holding.{Holding}
use Rattle.bw_core.specs.declared.origin.Edge.{Edge}
use Rattle.bw_terms.specs.declared.fault.StoreFault.{StoreFault}
use Rattle.bw_core.specs.Kept.{Kept}
use Rattle.bw_core.specs.Opened.{IsUnmade, no_edge, started}
use Rattle.bw_terms.specs.Ranges.{AreEnds}

-- a segment's number and its length
abbrev pub edge_at : ℕ → Option Holding → Edge
edge_at segment None = no_edge
edge_at segment (Some h) = record { segment = segment; length = length h.bytes }

-- the newest live segment, and its length
abbrev pub edge_of : Contents → Edge
edge_of c = edge_at (c.number + (length c.live - 1)) (slice_get c.live (length c.live - 1))

-- a store that starts with what was recovered, up to this frame, and has no history
abbrev pub reopened : List Ring → ℕ → Shown → List Place → Filling → Contents → Kept
reopened rings last filed newest making log =
    record (started rings [] filed newest making log) { before = last; edge = edge_of log }

-- ---- over which boxes

-- a store over these boxes, sorted out as recovery does, which goes on after what was found in them
pub record StandsOver (held : List Holding) (finding : Finding) (new : Kept) : Type 0 where
  pub live : new.log.live ≡ live_in held
  pub spares : new.log.spares ≡ spares_in held
  -- the newest segment takes frames if it ends with a whole one, and has the newest format
  pub is_open : new.log.is_open ≡ ends_whole (live_in held)
  pub works : new.log.is_failed ≡ false
  -- the limit of its frames, and that of its pages
  pub limit : new.log.f ≡ limit_in held
  pub pairs : new.log.m ≡ pairs_in held
  pub filed : new.filed.m ≡ new.log.m
  -- the next frame is the one after the last that was found
  pub before : new.before ≡ finding.last
  pub next : new.log.next ≡ following finding.last

-- a store that begins with what recovery finds in these boxes: nothing was taken yet
pub record Begins (held : List Holding) (new : Kept) : Type 0 where
  pub finding : Finding
  pub found : recovery held ≡ Ok finding
  pub start : new.start ≡ finding.leaves
  pub pages : new.filed.leaves ≡ new.start
  pub entries : new.entries ≡ []
  pub cuts : new.cuts ≡ []
  pub durable : new.durable ≡ 0
  pub floor : new.floor ≡ 0
  pub over : StandsOver held finding new

-- why a store was not opened again
abbrev pub IsReopenFault : ℕ → ℕ → StoreFault → Type 0
IsReopenFault writers places cause = IsUnmade (AreEnds writers places) cause
