-- What a home keeps from one call to the next.

use Rattle.std.specs.Prelude.{◌≡◌, map}
use Rattle.std.specs.declared.dyn_box.DynBox.{DynBox}
use Rattle.std.specs.declared.alloc.Global.{Global}
use Rattle.std.specs.declared.vec.Vec.{Vec}
use Rattle.bw_device.specs.Holding.{Holding}
use Rattle.bw_ring.specs.Ends.{ring_of_feed}
use Rattle.bw_ring.specs.declared.feed.Feed.{Feed}
use Rattle.bw_core.specs.Kept.{Kept, IsSound}
use Rattle.bw_core.specs.Views.{kept_beside}
use Rattle.bw_core.specs.declared.store.Core.{Core}
use Rattle.bw_home.specs.declared.home.Home.{Home}

module _ {I : Type 0} {H : I → Type 0} where
  -- a store is sound, and the feeds are those of its lanes, in order
  pub record AreReadyBeside (s : Core I H) (ends : Vec Feed Global) (v : DynBox I Global H → Holding) : Type 0 where
    pub sound : IsSound (kept_beside s v)
    pub feeds : map ring_of_feed ends.items ≡ (kept_beside s v).rings

  abbrev pub IsReadyBeside : Home I H → (DynBox I Global H → Holding) → Type 0
  IsReadyBeside h v = AreReadyBeside h.store h.feeds v

  abbrev pub IsReady : Home I H → ((i : I) × H i → Holding) → Type 0
  IsReady h v = IsReadyBeside h (λ b. v (b.vtable, b.value))

  -- what the store in a home keeps
  abbrev pub kept_in : Home I H → ((i : I) × H i → Holding) → Kept
  kept_in h v = kept_beside h.store (λ b. v (b.vtable, b.value))
