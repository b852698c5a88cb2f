-- Which maps a stop may leave of a home with one writer: the one that is kept, or one that a later group made.

use Rattle.std.specs.Prelude.{◌≡◌, ◌⊎◌, ◌<◌, ℕ, Bool, true, false, List, [], ◌∷◌, ◌++◌, Result, Ok, Err, length, drop}
use Rattle.bw_leaf.specs.Changed.{Map, changed_map}
use Rattle.bw_ring.specs.Marks.{Marked}
use Rattle.bw_ring.specs.declared.feed.Feed.{Feed}
use Rattle.bw_core.specs.Heard.{IsOfFeeds}
use Rattle.bw_core.specs.Kept.{Kept}
use Rattle.bw_home.specs.declared.fault.MapFault.{MapFault}
use Rattle.bw_home.specs.declared.fault.MapFault.TheVariants.{NotKept, NotPut, Waits, Writers}

-- a map counts if no more of its group follows
abbrev pub with_end : Bool → Map → List Map → List Map
with_end true map maps = maps
with_end false map maps = map ∷ maps

-- the maps that these records make of a map, one at the end of each group
abbrev pub maps_after : Map → List Marked → List Map
maps_after map [] = []
maps_after map (m ∷ ms) = with_end m.more (changed_map map m.item) (maps_after (changed_map map m.item) ms)

-- the kept map, and those that the groups after the kept ones make of it
abbrev pub cuts_from : Map → ℕ → List Marked → List Map
cuts_from kept durable put = kept ∷ maps_after kept (drop durable put)

-- the first ones may be gone, but never all
abbrev pub IsLater : List Map → List Map → Type 0
IsLater old new = (k : ℕ) × (k < length old) × (new ≡ drop k old)

-- one of these
abbrev pub IsAmong : List Map → Map → Type 0
IsAmong [] map = ⊥
IsAmong (m ∷ ms) map = (map ≡ m) ⊎ IsAmong ms map

-- what a refused change does to them: its map comes last if it was put, and waits
abbrev pub RefusedCuts : MapFault → List Map → Map → List Map → Type 0
RefusedCuts Writers old changed new = IsLater old new
RefusedCuts (NotPut cause) old changed new = IsLater old new
RefusedCuts (Waits cause) old changed new = IsLater (old ++ changed ∷ []) new
RefusedCuts (NotKept cause) old changed new = IsLater old new

-- what a change does to them: its map comes last
abbrev pub ChangedCuts : Result (Unit {0}) MapFault → List Map → Map → List Map → Type 0
ChangedCuts (Ok x) old changed new = IsLater (old ++ changed ∷ []) new
ChangedCuts (Err fault) old changed new = RefusedCuts fault old changed new

-- a map: there is one writer, and nothing was taken but what its feed accepted, in that order. `take_all` and `settle` make sure of the second,
-- and each call whose contract says `map` or `stays` leaves it so
pub record IsMap (feeds : List Feed) (s : Kept) : Type 0 where
  pub one : length feeds ≡ 1
  pub heard : IsOfFeeds feeds s.entries
