-- What a call of a folder asks of the files that it makes, writes or empties.
use Rattle.std.specs.Prelude.{◌≡◌, ◌⊎◌, ℕ, ◌-◌, Option, Some, None, List, [], ◌∷◌, ◌++◌, true, false, length, take}
use Rattle.bw_digest.specs.Sums.{Reach, no_sums, with_all}
use Rattle.bw_digest.specs.Laws.{bytes_of, sums_of, row_bytes, AreWritten}
use Rattle.bw_file.specs.declared.unsettled.TheConstants.{LAST}
use Rattle.bw_file.specs.Asked.{Bytes, Sums, Len, ReadFrom, Write, Sync, Step, done, FolderStep, Names, Make, OwnName, each_of, write_calls, held_back_calls, ended_calls}

-- ---- sums

-- these are the sums of pieces, each of which has bytes, and which are these bytes up to where this
-- row has come
pub record AreSumsUpTo (bytes : List ℕ) (row : Reach) (sums : List ℕ) : Type 0 where
  pub pieces : List (List ℕ)
  pub spelled : sums ≡ row_bytes (sums_of no_sums pieces)
  pub all_of : bytes_of pieces ≡ take row.end bytes
  pub have_bytes : AreWritten 0 pieces
  pub its_row : row ≡ with_all no_sums (sums_of no_sums pieces)

-- these are the sums of pieces, each of which has bytes, and which are all of these bytes
abbrev pub AreSumsOf : List ℕ → List ℕ → Type 0
AreSumsOf bytes sums = (pieces : List (List ℕ)) × (bytes_of pieces ≡ bytes) × AreWritten 0 pieces × (sums ≡ row_bytes (sums_of no_sums pieces))

-- this is the first of these bytes, or there are none
abbrev pub IsFirstOf : List ℕ → Option ℕ → Type 0
IsFirstOf [] first = first ≡ None
IsFirstOf (b ∷ bs) first = first ≡ Some b

-- ---- calls

-- the folder was there; or it was made, and then its name was waited for
abbrev pub IsMade : List FolderStep → Type 0
IsMade asked = (asked ≡ Make false ∷ []) ⊎ (asked ≡ Make true ∷ OwnName true ∷ [])

-- the file of this lease is written anew, once the names in the folder stand, and gets sums of these
-- bytes
abbrev pub IsWrittenAnew : ℕ → List ℕ → List FolderStep → Type 0
IsWrittenAnew lease bytes asked =
    (sums : List ℕ) × AreSumsOf bytes sums × (asked ≡ Names true ∷ each_of lease (write_calls bytes sums))

-- the same, but for the first byte and the sums, which are still to be written
abbrev pub IsBegun : ℕ → List ℕ → List FolderStep → List FolderStep → Type 0
IsBegun lease bytes asked left =
    (sums : List ℕ) × AreSumsOf bytes sums × (asked ≡ Names true ∷ each_of lease (held_back_calls bytes)) × (left ≡ each_of lease (ended_calls bytes sums))

-- of a file of so many bytes the last ones, which are these, are read and written once more, and
-- waited for; and then its sums are waited for
abbrev pub again_calls : ℕ → List ℕ → List Step
again_calls len end =
    done Bytes (Len len) ∷ done Bytes (ReadFrom (len - LAST) end) ∷ done Bytes (Write (len - LAST) end) ∷ done Bytes Sync ∷ done Sums Sync ∷ []

-- the end of a file is read and written again
abbrev pub IsPaidAgain : List Step → List Step → Type 0
IsPaidAgain old new = (len : ℕ) × (end : List ℕ) × (length end ≡ len - (len - LAST)) × (new ≡ old ++ again_calls len end)

-- the file of this lease is settled again
abbrev pub IsSettledAgain : ℕ → List FolderStep → Type 0
IsSettledAgain lease asked = (len : ℕ) × (end : List ℕ) × (length end ≡ len - (len - LAST)) × (asked ≡ each_of lease (again_calls len end))
