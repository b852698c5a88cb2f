-- What a subject has and leaves of a store that it is lent.

use Rattle.std.specs.Prelude.{◌≡◌}
use Rattle.std.specs.declared.alloc.Global.{Global}
use Rattle.std.specs.declared.vec.Vec.{Vec}
use Rattle.bw_device.specs.Holding.{Holding}
use Rattle.bw_ring.specs.declared.feed.Feed.{Feed}
use Rattle.bw_store.specs.Views.{kept_by, IsSound}
use Rattle.bw_store.specs.declared.store.Store.{Store}
use Rattle.bw_home.specs.Sharing.{AreSharedBeside}

module _ {I : Type 0} {H : I → Type 0} where
  -- the store is sound, and the feeds are those of its lanes, in order
  abbrev pub AreReady : Store I H → Vec Feed Global → ((i : I) × H i → Holding) → Type 0
  AreReady s ends v = AreSharedBeside s ends (λ b. v (b.vtable, b.value))

  -- the store is sound again, and its rings are the same
  abbrev pub Keeps : Store I H → Store I H → ((i : I) × H i → Holding) → Type 0
  Keeps old new v = record { sound : IsSound new v; rings : (kept_by new v).rings ≡ (kept_by old v).rings }
