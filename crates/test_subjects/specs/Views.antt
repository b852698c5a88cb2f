-- What a contract sees of a subject of the tests and of its writers' feeds: the same, whether it has
-- readers or none.

use Rattle.std.specs.Prelude.{List, map, ◌≡◌}
use Rattle.std.specs.declared.dyn_box.DynBox.{DynBox}
use Rattle.std.specs.declared.alloc.Global.{Global}
use Rattle.bw_device.specs.Holding.{Holding}
use Rattle.bw_ring.specs.Ends.{Ring, ring_of_feed}
use Rattle.bw_ring.specs.declared.feed.Feed.{Feed}
use Rattle.bw_core.specs.Views as core
use Rattle.bw_store.specs.Views as store
use Rattle.test_subjects.specs.declared.subject.Subject.{Subject}
use Rattle.test_subjects.specs.declared.subject.Subject.TheVariants.{Bare, Shown}

module _ {I : Type 0} {H : I → Type 0} where
  -- the rings of its writers, in order
  abbrev pub rings_beside : Subject I H → (DynBox I Global H → Holding) → List Ring
  rings_beside (Bare c) v = (core.kept_beside c v).rings
  rings_beside (Shown s) v = (store.kept_beside s v).rings

  abbrev pub rings_by : Subject I H → ((i : I) × H i → Holding) → List Ring
  rings_by s v = rings_beside s (λ b. v (b.vtable, b.value))

  -- what each of the two keeps between calls
  abbrev pub IsSoundBeside : Subject I H → (DynBox I Global H → Holding) → Type 0
  IsSoundBeside (Bare c) v = core.IsSoundBeside c v
  IsSoundBeside (Shown s) v = store.IsSoundBeside s v

  abbrev pub IsSound : Subject I H → ((i : I) × H i → Holding) → Type 0
  IsSound s v = IsSoundBeside s (λ b. v (b.vtable, b.value))

  -- the feeds are the ends of its rings, in order
  abbrev pub AreItsFeeds : List Feed → Subject I H → (DynBox I Global H → Holding) → Type 0
  AreItsFeeds feeds s v = map ring_of_feed feeds ≡ rings_beside s v
