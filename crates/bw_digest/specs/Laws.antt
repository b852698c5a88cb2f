-- What holds of sums: a crash makes no alarm, and what fits is what was written.
use Rattle.std.specs.Prelude.{◌≡◌, ℕ, ◌+◌, ◌^◌, ◌<◌, ◌≤◌, ◌⊎◌, false, List, [], ◌∷◌, ◌++◌, length, drop, take}
use Rattle.bw_digest.specs.Digest.{Collide}
use Rattle.bw_digest.specs.Sums.{Reach, no_sums, after, sum_of, sum_in, sum_bytes, follows, sums_in, with_all, told_end, Fits}
use Rattle.bw_digest.specs.declared.sum.Sum.{Sum}

-- the bytes of these pieces
abbrev pub bytes_of : List (List ℕ) → List ℕ
bytes_of [] = []
bytes_of (p ∷ ps) = p ++ bytes_of ps

-- their sums, after a row
abbrev pub sums_of : Reach → List (List ℕ) → List Sum
sums_of row [] = []
sums_of row (p ∷ ps) = sum_of row p ∷ sums_of (after row (sum_of row p)) ps

-- the bytes of sums
abbrev pub row_bytes : List Sum → List ℕ
row_bytes [] = []
row_bytes (s ∷ ss) = sum_bytes s ++ row_bytes ss

-- each has bytes, and all of them fit a file after so many bytes
abbrev pub AreWritten : ℕ → List (List ℕ) → Type 0
AreWritten from [] = Unit {0}
AreWritten from (p ∷ ps) = (1 ≤ length p) × (from + length p < 2 ^ 64) × AreWritten (from + length p) ps

-- no sum begins here that follows this row, however long the file beside it is
abbrev pub NothingFollows : Reach → List ℕ → Type 0
NothingFollows row left = (length left < 24) ⊎ ((len : ℕ) → follows len row (sum_in left) ≡ false)

-- Pieces were written, and then their sums: whatever stands after these bytes, and whatever after
-- these sums that does not follow them, these sums are those that count, the bytes fit them, and
-- nothing is missing.
abbrev pub NoFalseAlarm : Type 0
NoFalseAlarm = (ps : List (List ℕ)) (tail left : List ℕ) → AreWritten 0 ps →
    NothingFollows (with_all no_sums (sums_of no_sums ps)) left →
    (sums_in (length (bytes_of ps ++ tail)) (row_bytes (sums_of no_sums ps) ++ left) ≡ sums_of no_sums ps)
    × Fits (bytes_of ps ++ tail) no_sums (sums_of no_sums ps)
    × (told_end (row_bytes (sums_of no_sums ps) ++ left) ≤ length (bytes_of ps ++ tail))

-- one of the pieces has the digest of other bytes, which stand in its place
abbrev pub CollidesAt : List ℕ → ℕ → List (List ℕ) → Type 0
CollidesAt bytes from [] = ⊥
CollidesAt bytes from (p ∷ ps) = Collide (take (length p) (drop from bytes)) p ⊎ CollidesAt bytes (from + length p) ps

-- Bytes that fit the sums of these pieces begin with them, or in the place of one of them stand bytes that have its digest.
abbrev pub WhatFitsWasWritten : Type 0
WhatFitsWasWritten = (ps : List (List ℕ)) (bytes : List ℕ) → Fits bytes no_sums (sums_of no_sums ps) →
    (take (length (bytes_of ps)) bytes ≡ bytes_of ps) ⊎ CollidesAt bytes 0 ps
