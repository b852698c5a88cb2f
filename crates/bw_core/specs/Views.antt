-- What a store is, through a reading of its boxes: a box is a pair, or, in a signature that names boxes, a box.

use Rattle.std.specs.Prelude.{ℕ, Bool, List, map}
use Rattle.std.specs.declared.dyn_box.DynBox.{DynBox}
use Rattle.std.specs.declared.alloc.Global.{Global}
use Rattle.bw_device.specs.Holding.{Holding}
use Rattle.bw_page.specs.Shown.{is_evicted_page}
use Rattle.bw_ring.specs.Ends.{ring_of_lane}
use Rattle.bw_ring.specs.declared.lane.Lane.{Lane}
use Rattle.bw_log.specs.Views.{seen_by}
use Rattle.bw_core.specs.Kept.{Kept, filed_of}
use Rattle.bw_core.specs.Noted.{Noted}
use Rattle.bw_care.specs.declared.tally.Looks.{Looks}
use Rattle.bw_core.specs.Kept as kept
use Rattle.bw_core.specs.declared.store.Core.{Core}

module _ {I : Type 0} {H : I → Type 0} where
  abbrev pub kept_beside : Core I H → (DynBox I Global H → Holding) → Kept
  kept_beside s v = record {
    rings = map ring_of_lane s.intake.lanes.items;
    start = s.origin.start.value.leaves;
    before = s.origin.before;
    floor = s.seals.floor;
    edge = s.origin.edge;
    entries = s.intake.history.items;
    cuts = s.seals.cuts.items;
    durable = s.seals.durable;
    filed = filed_of s.pages.leaves;
    newest = s.pages.newest.items;
    making = s.pages.making;
    log = seen_by v s.log;
  }

  abbrev pub kept_by : Core I H → ((i : I) × H i → Holding) → Kept
  kept_by s v = kept_beside s (λ b. v (b.vtable, b.value))

  -- a page is not in memory; what a store keeps is the same, wherever its pages are
  abbrev pub is_evicted : ℕ → Core I H → Bool
  is_evicted page s = is_evicted_page page s.pages.leaves

  -- which pages are away
  abbrev pub away_in : Core I H → ℕ → Bool
  away_in s page = is_evicted_page page s.pages.leaves

  -- its ends of the rings, in the order of the writers
  abbrev pub lanes_of : Core I H → List Lane
  lanes_of s = s.intake.lanes.items

  -- how many entries of the history left memory, from the first on
  abbrev pub forgotten_of : Core I H → ℕ
  forgotten_of s = s.intake.history.gone

  -- what it notes beside what it keeps
  abbrev pub noted_of : Core I H → Noted
  noted_of s = record { gone = s.intake.history.gone; tally = s.counts.tally }

  -- what it read so far, and how many pages left by themselves
  abbrev pub looks_of : Core I H → Looks
  looks_of s = s.counts.looks

  -- what every store keeps between calls
  abbrev pub IsSoundBeside : Core I H → (DynBox I Global H → Holding) → Type 0
  IsSoundBeside s v = kept.IsSound (kept_beside s v)

  abbrev pub IsSound : Core I H → ((i : I) × H i → Holding) → Type 0
  IsSound s v = kept.IsSound (kept_by s v)
