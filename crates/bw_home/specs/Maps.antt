-- A home with one writer as most callers want it: a map, and what of it is kept.

use Rattle.std.specs.Prelude.{◌≡◌, List, [], ◌∷◌, map, slice_index_or, take}
use Rattle.bw_device.specs.Holding.{Holding}
use Rattle.bw_record.specs.declared.record.Record.{Record}
use Rattle.bw_leaf.specs.Changed.{Map}
use Rattle.bw_page.specs.Leaves.{plain}
use Rattle.bw_ring.specs.Ends.{accepted}
use Rattle.bw_ring.specs.Marks.{Marked}
use Rattle.bw_history.specs.declared.entry.Entry.{Entry}
use Rattle.bw_history.specs.Entries.{records}
use Rattle.bw_core.specs.Kept.{Kept}
use Rattle.bw_core.specs.Machine.{machine_of}
use Rattle.bw_home.specs.Cuts.{IsLater, IsMap, cuts_from}
use Rattle.bw_home.specs.Ready.{kept_in}
use Rattle.bw_home.specs.declared.fault.MapFault.{MapFault}
use Rattle.bw_home.specs.declared.fault.MapFault.TheVariants.{NotKept, NotPut, Waits, Writers}
use Rattle.bw_home.specs.declared.home.Home.{Home}

pub record Maps : Type 0 where
  -- as all that was put leaves it, also what waits in the queue
  pub put : Map
  -- as all that was taken leaves it: this is what `get` looks at
  pub now : Map
  -- as what is durable leaves it
  pub kept : Map
  -- the kept map, and each that a group made since, in turn, up to what was put: if the home is a
  -- map, a stop leaves one of these
  pub cuts : List Map

-- as these entries leave it
abbrev pub map_of : Kept → List Entry → Map
map_of s entries = plain s.start (records entries)

-- the maps that a stop may leave, if this was put and nothing else was taken
abbrev pub cuts_by : Kept → List Marked → List Map
cuts_by s put = cuts_from (map_of s (take (machine_of s).durable s.entries)) (machine_of s).durable put

module _ {I : Type 0} {H : I → Type 0} where
  -- all that the first writer's queue accepted
  abbrev pub accepted_in : Home I H → List Marked
  accepted_in h = slice_index_or (map accepted h.feeds.items) 0 []

  abbrev pub put_in : Home I H → List Record
  put_in h = map (λ m. m.item) (accepted_in h)

  -- it is a map
  abbrev pub IsMapBy : Home I H → ((i : I) × H i → Holding) → Type 0
  IsMapBy h v = IsMap h.feeds.items (kept_in h v)

  abbrev pub maps_of : Home I H → ((i : I) × H i → Holding) → Maps
  maps_of h v = record {
    put = plain (kept_in h v).start (put_in h);
    now = map_of (kept_in h v) (kept_in h v).entries;
    kept = map_of (kept_in h v) (take (machine_of (kept_in h v)).durable (kept_in h v).entries);
    cuts = cuts_by (kept_in h v) (accepted_in h);
  }

module _ {I : Type 0} {H : I → Type 0} where
  -- a call that changes nothing of a map, but that more of it may be kept
  pub record StaysMap (old new : Home I H) (v : (i : I) × H i → Holding) : Type 0 where
    pub map : IsMapBy old v → IsMapBy new v
    pub cuts : IsMapBy old v → IsLater (maps_of old v).cuts (maps_of new v).cuts

-- nothing waits, and the map is this
pub record Has (map : Map) (m : Maps) : Type 0 where
  pub put : m.put ≡ map
  pub now : m.now ≡ map

-- and all of it is kept: a stop leaves this and nothing else
pub record Keeps (map : Map) (m : Maps) : Type 0 where
  pub has : Has map m
  pub kept : m.kept ≡ map
  pub cuts : m.cuts ≡ map ∷ []

-- if a call was refused: nothing was put; or the change was, and waits in the queue
abbrev pub Refuses : MapFault → Map → Map → Maps → Type 0
Refuses Writers was changed m = m.put ≡ was
Refuses (NotPut cause) was changed m = m.put ≡ was
Refuses (Waits cause) was changed m = m.put ≡ changed
Refuses (NotKept cause) was changed m = m.put ≡ was
