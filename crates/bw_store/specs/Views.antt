-- What a store is, through a reading of its boxes: a box is a pair, or, in a signature that names boxes, a box.

use Rattle.std.specs.Prelude.{ℕ, Bool, List}
use Rattle.std.specs.declared.dyn_box.DynBox.{DynBox}
use Rattle.std.specs.declared.alloc.Global.{Global}
use Rattle.bw_device.specs.Holding.{Holding}
use Rattle.bw_ring.specs.declared.lane.Lane.{Lane}
use Rattle.bw_core.specs.Noted.{Noted}
use Rattle.bw_care.specs.declared.tally.Looks.{Looks}
use Rattle.bw_core.specs.Views as core
use Rattle.bw_store.specs.Kept.{Kept, with_versions}
use Rattle.bw_store.specs.Kept as kept
use Rattle.bw_store.specs.declared.store.Store.{Store}

module _ {I : Type 0} {H : I → Type 0} where
  abbrev pub kept_beside : Store I H → (DynBox I Global H → Holding) → Kept
  kept_beside s v = with_versions (core.kept_beside s.core v) s.versions

  abbrev pub kept_by : Store I H → ((i : I) × H i → Holding) → Kept
  kept_by s v = kept_beside s (λ b. v (b.vtable, b.value))

  abbrev pub forgotten_of : Store I H → ℕ
  forgotten_of s = core.forgotten_of s.core

  -- its ends of the rings, in the order of the writers
  abbrev pub lanes_of : Store I H → List Lane
  lanes_of s = core.lanes_of s.core

  -- which pages are away
  abbrev pub away_in : Store I H → ℕ → Bool
  away_in s = core.away_in s.core

  -- a page is not in memory
  abbrev pub is_evicted : ℕ → Store I H → Bool
  is_evicted page s = core.is_evicted page s.core

  abbrev pub noted_of : Store I H → Noted
  noted_of s = core.noted_of s.core

  -- what it read so far
  abbrev pub looks_of : Store I H → Looks
  looks_of s = core.looks_of s.core

  -- what every store keeps between calls
  abbrev pub IsSoundBeside : Store I H → (DynBox I Global H → Holding) → Type 0
  IsSoundBeside s v = kept.IsSound (kept_beside s v)

  abbrev pub IsSound : Store I H → ((i : I) × H i → Holding) → Type 0
  IsSound s v = kept.IsSound (kept_by s v)
