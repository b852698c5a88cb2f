-- What a contract sees of a segment, and what a call may make of it.
use Rattle.std.specs.Prelude.{◌≡◌, ℕ, ◌+◌, List, ◌++◌, take}

-- the held bytes, the room for them, the number of the lease, and how many calls have failed
pub record Holding : Type 0 where
  pub bytes : List ℕ
  pub room : ℕ
  pub lease : ℕ
  pub failed : ℕ

-- the piece was added
abbrev pub appended : Holding → List ℕ → Holding
appended old piece = record old { bytes = old.bytes ++ piece }

-- a call failed that adds nothing
abbrev pub failed_once : Holding → Holding
failed_once old = record old { failed = old.failed + 1 }

-- an append failed that added the first n bytes of its piece, or all if it has no more
abbrev pub torn_at : ℕ → Holding → List ℕ → Holding
torn_at n old piece = record old { bytes = old.bytes ++ take n piece; failed = old.failed + 1 }

-- the append failed: some beginning of the piece was added, maybe all of it
abbrev pub IsTorn : Holding → List ℕ → Holding → Type 0
IsTorn old piece new = (n : ℕ) × (new ≡ torn_at n old piece)
