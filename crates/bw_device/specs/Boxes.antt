-- What a contract sees of boxes with segments: what a call made of one, one of a list that changed,
-- and boxes that are spares.
use Rattle.std.specs.Prelude.{ℕ, ◌≤◌, ◌≡◌, Some, List, [], slice_get, slice_set, Result, MatchResult}
use Rattle.bw_device.specs.Holding.{Holding, appended, failed_once, IsTorn}
use Rattle.bw_device.specs.declared.memory.TheConstants.{MAX_CAPACITY}
use Rattle.bw_device.specs.declared.segments.Fault.{Fault}

-- an append that ended so made this of a segment
abbrev pub IsAfterAppend : Result (Unit {0}) Fault → Holding → List ℕ → Holding → Type 0
IsAfterAppend r old piece new = MatchResult r (λ _. new ≡ appended old piece) (λ _. IsTorn old piece new)

-- a read that ended so made this of one
abbrev pub IsAfterRead : Result (Unit {0}) Fault → Holding → Holding → Type 0
IsAfterRead r old new = MatchResult r (λ _. new ≡ old) (λ _. new ≡ failed_once old)

-- the i-th segment changed as this says, and no other did
pub record ChangedAt (step : Holding → Holding → Type 0) (i : ℕ) (old new : List Holding) : Type 0 where
  pub before : Holding
  pub after : Holding
  pub was : slice_get old i ≡ Some before
  pub is : new ≡ slice_set old i after
  pub steps : step before after

-- room for so many bytes at least, and for no more than a segment may have
abbrev pub HasRoomOf : ℕ → Holding → Type 0
HasRoomOf least h = (least ≤ h.room) × (h.room ≤ MAX_CAPACITY)

-- an empty segment with such room
abbrev pub IsSpareOf : ℕ → Holding → Type 0
IsSpareOf least h = (h.bytes ≡ []) × HasRoomOf least h
