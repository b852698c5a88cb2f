-- A home that was just opened: what it is opened with, and that nothing was put and nothing was
-- taken yet.

use Rattle.std.specs.Prelude.{ℕ, ◌≡◌, List, [], length, map, replicate}
use Rattle.std.specs.declared.dyn_box.DynBox.{DynBox}
use Rattle.std.specs.declared.alloc.Global.{Global}
use Rattle.bw_device.specs.Holding.{Holding}
use Rattle.bw_ring.specs.Ends.{accepted}
use Rattle.bw_ring.specs.declared.feed.Feed.{Feed}
use Rattle.bw_history.specs.declared.entry.Entry.{Entry}
use Rattle.bw_terms.specs.declared.config.Config.{Config}
use Rattle.bw_core.specs.Views.{kept_beside}
use Rattle.bw_store.specs.Views as store
use Rattle.bw_home.specs.Ready.{kept_in}
use Rattle.bw_home.specs.Sharing.{shared_in}
use Rattle.bw_home.specs.declared.home.Home.{Home}
use Rattle.bw_home.specs.declared.options.Options.{Options}
use Rattle.bw_home.specs.declared.shared.SharedHome.{SharedHome}

-- what a new store is opened with
abbrev pub config_of : Options → Config
config_of o = record { writers = o.writers; places = o.queue_groups; m = o.pairs_a_page; f = o.frame_bytes }

-- no feed accepted anything, nothing was taken, and no frame was sealed
pub record AreBegun (feeds : List Feed) (entries : List Entry) (cuts : List ℕ) : Type 0 where
  pub put : map accepted feeds ≡ replicate (length feeds) []
  pub taken : entries ≡ []
  pub sealed : cuts ≡ []

module _ {I : Type 0} {H : I → Type 0} where
  abbrev pub IsBegunBeside : Home I H → (DynBox I Global H → Holding) → Type 0
  IsBegunBeside h v = AreBegun h.feeds.items (kept_beside h.store v).entries (kept_beside h.store v).cuts

  abbrev pub IsBegun : Home I H → ((i : I) × H i → Holding) → Type 0
  IsBegun h v = AreBegun h.feeds.items (kept_in h v).entries (kept_in h v).cuts

  -- ---- with readers

  abbrev pub IsSharedBegunBeside : SharedHome I H → (DynBox I Global H → Holding) → Type 0
  IsSharedBegunBeside h v = AreBegun h.feeds.items (store.kept_beside h.store v).entries (store.kept_beside h.store v).cuts

  abbrev pub IsSharedBegun : SharedHome I H → ((i : I) × H i → Holding) → Type 0
  IsSharedBegun h v = AreBegun h.feeds.items (shared_in h v).entries (shared_in h v).cuts
