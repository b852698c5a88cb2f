-- A search among pairs from the front, and what a record does where it ended.

use Rattle.std.specs.Prelude.{ℕ, ◌+◌, ◌<◌, ◌≤◌, Option, Some, None, Result, Ok, Err, [], ◌∷◌}
use Rattle.std.specs.FinMap.Entries.{by_order}
use Rattle.bw_record.specs.declared.record.Record.{Record}
use Rattle.bw_record.specs.declared.record.Record.TheVariants.{Put, Del}
use Rattle.bw_leaf.specs.Changed.{Bytes, Pairs, order}

-- the end of a search after n other pairs
abbrev pub passed : ℕ → Result ℕ ℕ → Result ℕ ℕ
passed n (Ok at) = Ok (n + at)
passed n (Err at) = Err (n + at)

-- where a search ended, be the key there or not
abbrev pub end_of : Result ℕ ℕ → ℕ
end_of (Ok at) = at
end_of (Err at) = at

-- the index of a key, or of the first pair with a greater key
abbrev pub seek_of : Bytes → Pairs → Result ℕ ℕ
seek_of key [] = Err 0
seek_of key (p ∷ ps) = by_order (order key p.0) (Err 0) (Ok 0) (passed 1 (seek_of key ps))

-- the index of one of n pairs, or of a place beside them
abbrev pub IsWithin : ℕ → Result ℕ ℕ → Type 0
IsWithin n (Ok at) = at < n
IsWithin n (Err at) = at ≤ n

-- one of n pairs, or a place between two of them
abbrev pub IsBetween : ℕ → Result ℕ ℕ → Type 0
IsBetween n (Ok at) = Unit {0}
IsBetween n (Err at) = (1 ≤ at) × (at < n)

-- a record adds no pair if the search for its key ended so
abbrev pub AddsNone : Record → Result ℕ ℕ → Type 0
AddsNone (Put key value) (Ok at) = Unit {0}
AddsNone (Put key value) (Err at) = ⊥
AddsNone (Del key) found = Unit {0}

-- a record adds a pair if the search for its key ended so
abbrev pub AddsOne : Record → Result ℕ ℕ → Type 0
AddsOne (Put key value) (Ok at) = ⊥
AddsOne (Put key value) (Err at) = Unit {0}
AddsOne (Del key) found = ⊥

-- the record that takes a record back, if its key had this value; there is none that would add a
-- pair
abbrev pub back_of : Record → Option Bytes → Option Record
back_of (Put key value) (Some old) = Some (Put key old)
back_of (Put key value) None = Some (Del key)
back_of (Del key) (Some old) = None
back_of (Del key) None = Some (Del key)
