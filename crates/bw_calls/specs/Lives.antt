-- What a stop may leave of the tables of a home.

use Rattle.std.specs.Prelude.{◌≡◌, ◌⊎◌, List, [], ◌∷◌}
use Rattle.std.specs.List.{AllByRecursion}
use Rattle.std.specs.FinMap as finite
use Rattle.bw_device.specs.Holding.{Holding}
use Rattle.bw_leaf.specs.Changed.{Map}
use Rattle.bw_rows.specs.Meaning.{Plain, Tables}
use Rattle.bw_rows.specs.Batches.{IsLeft}
use Rattle.bw_ring.specs.declared.feed.Feed.{Feed}
use Rattle.bw_core.specs.Kept.{Kept}
use Rattle.bw_home.specs.Cuts.{IsMap}
use Rattle.bw_home.specs.Laws.{cuts_of}
use Rattle.bw_home.specs.Ready.{kept_in}
use Rattle.bw_home.specs.declared.home.Home.{Home}

-- these tables are among those
abbrev pub IsIn : Tables → List Tables → Type 0
IsIn t [] = ⊥
IsIn t (x ∷ ts) = (t ≡ x) ⊎ IsIn t ts

-- a map with some of these tables; a batch may stand in it
abbrev pub HasSome : List Tables → Plain → Type 0
HasSome ts p = (t : Tables) × IsIn t ts × IsLeft t p

-- each of these maps is one
abbrev pub HaveSome : List Tables → List Map → Type 0
HaveSome ts maps = AllByRecursion (λ m. HasSome ts (λ q. finite.get m q)) maps

-- a store is a map, and what a stop leaves of it is a lawful one with some of these tables
pub record StopsWith (ts : List Tables) (feeds : List Feed) (s : Kept) : Type 0 where
  pub map : IsMap feeds s
  pub cuts : HaveSome ts (cuts_of feeds s)

module _ {I : Type 0} {H : I → Type 0} where
  abbrev pub LeavesSome : List Tables → Home I H → ((i : I) × H i → Holding) → Type 0
  LeavesSome ts h v = StopsWith ts h.feeds.items (kept_in h v)

  -- a call that writes nothing
  abbrev pub Reads : Home I H → Home I H → ((i : I) × H i → Holding) → Type 0
  Reads old new v = (ts : List Tables) → LeavesSome ts old v → LeavesSome ts new v

  -- a call that makes this map of the old one, in one step
  abbrev pub Writes : Plain → Home I H → Home I H → ((i : I) × H i → Holding) → Type 0
  Writes p old new v = (ts : List Tables) → HasSome ts p → LeavesSome ts old v → LeavesSome ts new v

  -- a call of many steps after each of which these are the tables
  abbrev pub Stays : Tables → Home I H → Home I H → ((i : I) × H i → Holding) → Type 0
  Stays tables old new v = (ts : List Tables) → IsIn tables ts → LeavesSome ts old v → LeavesSome ts new v

  -- a call of many steps after each of which the tables are the first ones or the second ones
  abbrev pub Goes : Tables → Tables → Home I H → Home I H → ((i : I) × H i → Holding) → Type 0
  Goes was now old new v = (ts : List Tables) → IsIn was ts → IsIn now ts → LeavesSome ts old v → LeavesSome ts new v
