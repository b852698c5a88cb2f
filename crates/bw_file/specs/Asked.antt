-- What was asked of the files of a segment, and of a folder, in order, and what was answered; and
-- what a disk that does its duty keeps of it.
use Rattle.std.specs.Prelude.{◌≡◌, ◌⊎◌, ◌==◌, ℕ, zero, suc, ◌*◌, ◌<◌, nat_le, if◌then◌else◌, List, [], ◌∷◌, ◌++◌, Bool, true, false, length, map, take}
use Rattle.bw_digest.specs.Sums.{Reach, sum_bytes, sum_of}

-- ---- calls

-- the file that holds the segment's bytes, or the one beside it that holds their sums
pub data Which : Type 0 where
  Bytes : Which
  Sums : Which

-- what is asked: whether the file is there, and this is the answer; how long it is; to read from
-- its beginning on, and these are the bytes; to read from this offset on, and these are the bytes;
-- to write these bytes from this offset on; to make the file so long; to wait until what was written
-- stands on the disk
pub data Call : Type 0 where
  Find : Bool → Call
  Len : ℕ → Call
  Read : List ℕ → Call
  ReadFrom : ℕ → List ℕ → Call
  Write : ℕ → List ℕ → Call
  SetLen : ℕ → Call
  Sync : Call

-- one call, and whether the answer was Ok
pub record Step : Type 0 where
  pub file : Which
  pub call : Call
  pub is_ok : Bool

-- a call that was answered by Ok
abbrev pub done : Which → Call → Step
done file call = record { file = file; call = call; is_ok = true }

-- of these calls the first n were done, and the next one failed, if there is one
abbrev pub broken_off : ℕ → List Step → List Step
broken_off n [] = []
broken_off zero (s ∷ ss) = record s { is_ok = false } ∷ []
broken_off (suc n) (s ∷ ss) = s ∷ broken_off n ss

-- of these calls some were done, and the next one failed
abbrev pub IsStopped : List Step → List Step → List Step → Type 0
IsStopped calls old new = (n : ℕ) × ((n < length calls) × (new ≡ old ++ broken_off n calls))

-- ---- calls of a folder

-- a call on a file of the segment of this lease; or a wait until the names in the folder stand on
-- the disk, and whether the answer was Ok; or to make the folder, and whether it was missing; or a
-- wait until the folder's own name stands, and whether the answer was Ok
pub data FolderStep : Type 0 where
  Of : ℕ → Step → FolderStep
  Names : Bool → FolderStep
  Make : Bool → FolderStep
  OwnName : Bool → FolderStep

-- these calls, on the files of the segment of this lease
abbrev pub each_of : ℕ → List Step → List FolderStep
each_of lease calls = map (λ s. Of lease s) calls

-- the call, answered by an error
abbrev pub in_vain : FolderStep → FolderStep
in_vain (Of lease s) = Of lease (record s { is_ok = false })
in_vain (Names ok) = Names false
in_vain (Make missing) = Make missing
in_vain (OwnName ok) = OwnName false

-- of these calls the first n were done, and the next one failed, if there is one
abbrev pub cut_off : ℕ → List FolderStep → List FolderStep
cut_off n [] = []
cut_off zero (s ∷ ss) = in_vain s ∷ []
cut_off (suc n) (s ∷ ss) = s ∷ cut_off n ss

-- a refusal: the first n of these calls were done, and perhaps the next one failed
abbrev pub IsCutOff : List FolderStep → List FolderStep → List FolderStep → Type 0
IsCutOff calls old new = (n : ℕ) × ((new ≡ old ++ take n calls) ⊎ ((n < length calls) × (new ≡ old ++ cut_off n calls)))

-- ---- an append

-- the sum of a piece is written after those of the row; a piece of no bytes has none
abbrev pub sum_calls : Reach → List ℕ → List Step
sum_calls row piece =
    if length piece == 0 then [] else (done Sums (Write (row.count * 24) (sum_bytes (sum_of row piece))) ∷ [])

-- the piece is written where the held bytes end, is waited for, and then has its sum
abbrev pub append_calls : ℕ → Reach → List ℕ → List Step
append_calls at row piece = done Bytes (Write at piece) ∷ done Bytes Sync ∷ sum_calls row piece

-- nothing was asked, or these calls up to the first that failed
abbrev pub IsBrokenOff : List Step → List Step → List Step → Type 0
IsBrokenOff calls old new = (new ≡ old) ⊎ IsStopped calls old new

-- ---- how a record begins

-- of a new segment: first its sums are emptied, then its bytes, and each is waited for
abbrev pub spare_calls : List Step
spare_calls = done Sums (SetLen 0) ∷ done Sums Sync ∷ done Bytes (SetLen 0) ∷ done Bytes Sync ∷ []

-- of a file that is written anew: its sums are emptied and waited for, and its bytes are emptied
abbrev pub cleared_calls : List Step
cleared_calls = done Sums (SetLen 0) ∷ done Sums Sync ∷ done Bytes (SetLen 0) ∷ []

-- then the bytes are written and waited for, and then they have these sums
abbrev pub write_calls : List ℕ → List ℕ → List Step
write_calls bytes sums = cleared_calls ++ (done Bytes (Write 0 bytes) ∷ done Bytes Sync ∷ done Sums (Write 0 sums) ∷ [])

-- of a file whose first byte is held back: a 0 is written in its place, and the bytes after it, and
-- they are waited for; if there are no bytes, nothing is written
abbrev pub held_back_calls : List ℕ → List Step
held_back_calls [] = cleared_calls
held_back_calls (b ∷ bs) = cleared_calls ++ (done Bytes (Write 0 (0 ∷ [])) ∷ done Bytes (Write 1 bs) ∷ done Bytes Sync ∷ [])

-- then the first byte is written and waited for, and then the bytes have these sums
abbrev pub first_calls : ℕ → List ℕ → List Step
first_calls first sums = done Bytes (Write 0 (first ∷ [])) ∷ done Bytes Sync ∷ done Sums (Write 0 sums) ∷ []

-- the same for all of these bytes; if there are none, nothing is left to do
abbrev pub ended_calls : List ℕ → List ℕ → List Step
ended_calls [] sums = []
ended_calls (b ∷ bs) sums = first_calls b sums

-- of a segment over its file: as many bytes were read as it is long, and these are they
abbrev pub read_calls : List ℕ → List Step
read_calls bytes = done Bytes (Len (length bytes)) ∷ done Bytes (Read bytes) ∷ []

-- the file was there, and these bytes were read of it; or there was none
abbrev pub IsFound : List ℕ → List Step → Type 0
IsFound bytes asked = (asked ≡ done Bytes (Find true) ∷ read_calls bytes) ⊎ ((asked ≡ done Bytes (Find false) ∷ []) × (bytes ≡ []))

-- ---- what a disk keeps

-- bytes that a file begins with as long as the system runs, and those of them that it begins with
-- after any stop too
pub record Disk : Type 0 where
  pub given : List ℕ
  pub stands : List ℕ

-- a file without bytes
abbrev pub empty : Disk
empty = record { given = []; stands = [] }

-- of a file after a call. What was read counts as standing, as it does once it is settled; no append
-- is asked before. A write may tear what it goes over and what stood after it. After a sync that
-- failed, what was written since the one before it may be lost.
abbrev pub after : Call → Bool → Disk → Disk
after (Find there) ok d = d
after (Len len) ok d = d
after (Read bytes) ok d = record { given = bytes; stands = bytes }
after (ReadFrom at bytes) ok d = d
after (Write at piece) true d = record { given = if nat_le at (length d.given) then take at d.given ++ piece else d.given; stands = take at d.stands }
after (Write at piece) false d = record { given = take at d.given; stands = take at d.stands }
after (SetLen len) ok d = record { given = take len d.given; stands = take len d.stands }
after Sync true d = record { given = d.given; stands = d.given }
after Sync false d = record { given = d.stands; stands = d.stands }

-- of the segment's file after a step
abbrev pub after_step : Which → Call → Bool → Disk → Disk
after_step Bytes call ok d = after call ok d
after_step Sums call ok d = d

-- of the segment's file after all of these
abbrev pub after_all : Disk → List Step → Disk
after_all d [] = d
after_all d (s ∷ ss) = after_all (after_step s.file s.call s.is_ok d) ss

-- the disk does its duty: after what was asked, and whatever stop, the segment's file is this one
abbrev pub IsKept : List Step → List ℕ → Type 0
IsKept asked file = take (length (after_all empty asked).stands) file ≡ (after_all empty asked).stands
