-- One lane of several.

use Rattle.std.specs.Prelude.{ℕ, ◌+◌, ◌==◌, ◌≡◌, ◌<◌, ◌≤◌, if◌then◌else◌, ◌++◌, ◌∷◌, [], List, length, map, drop, slice_get, slice_index_or, slice_set}
use Rattle.std.specs.List.{AllByRecursion}
use Rattle.std.specs.Option.{IsSomeAnd}
use mathlib.Core.List.{IsPrefix}
use Rattle.bw_record.specs.declared.record.Record.{Record}
use Rattle.bw_ring.specs.declared.lane.Lane.{Lane}
use Rattle.bw_ring.specs.Marks.{Marked, marked}
use Rattle.bw_ring.specs.Ends.{known}

-- the lane at this index gives this group next
abbrev pub IsNext : List Lane → ℕ → List Record → Type 0
IsNext lanes at r = IsSomeAnd (slice_get lanes at) (λ l. IsPrefix (r ∷ []) (known l))

-- what the lane at this index knows of
abbrev pub known_at : List Lane → ℕ → List (List Record)
known_at lanes at = slice_index_or (map known lanes) at []

-- the lane at this index knows of a group
abbrev pub IsWaiting : List Lane → ℕ → Type 0
IsWaiting lanes at = 0 < length (known_at lanes at)

-- the lane at this index knows of no group
abbrev pub IsDry : List Lane → ℕ → Type 0
IsDry lanes at = IsSomeAnd (slice_get lanes at) (λ l. known l ≡ [])

-- the lane at this index knows of no group, and lanes that knew of none still know of none
pub record Dries (at : ℕ) (old new : List Lane) : Type 0 where
  pub here : IsDry new at
  pub others : (i : ℕ) → IsDry old i → IsDry new i

-- no lane knows of a group
abbrev pub AreDry : List Lane → Type 0
AreDry lanes = AllByRecursion (λ l. known l ≡ []) lanes

-- one group more was taken at this index
abbrev pub TookAt : ℕ → List Record → List (List Marked) → List (List Marked) → Type 0
TookAt at r old new = new ≡ slice_set old at (slice_index_or old at [] ++ marked r)

-- the first group that the lane at this index knew of is gone, and no lane knows of more
abbrev pub TookKnown : ℕ → List Lane → List Lane → Type 0
TookKnown at old new = map known new ≡ slice_set (map known old) at (drop 1 (known_at old at))

-- lanes that knew of no group still know of none
abbrev pub StayDry : List Lane → List Lane → Type 0
StayDry old new = (i : ℕ) → known_at old i ≡ [] → known_at new i ≡ []

-- each lane knows of as many groups as before, at least
abbrev pub KnowMore : List Lane → List Lane → Type 0
KnowMore old new = (i : ℕ) → length (known_at old i) ≤ length (known_at new i)

-- 1 for this lane, and 0 for any other
abbrev pub only_at : ℕ → ℕ → ℕ
only_at at i = if at == i then 1 else 0

-- each lane but this one knows of as many groups as before, at least; this one may have given one
abbrev pub KnowAfter : ℕ → List Lane → List Lane → Type 0
KnowAfter at old new = (i : ℕ) → length (known_at old i) ≤ only_at at i + length (known_at new i)
