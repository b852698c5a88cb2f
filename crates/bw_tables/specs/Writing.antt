-- The groups that a put of a long value writes, and what stands between two of them.

use Rattle.std.specs.Prelude.{◌≡◌, ◌<◌, ◌+◌, ◌^◌, ℕ, zero, suc, true, List, [], ◌∷◌, ◌++◌, length, Option, None, Some}
use Rattle.std.specs.Option.{option_map}
use Rattle.bw_record.specs.declared.record.Record.{Record}
use Rattle.bw_record.specs.declared.record.Record.TheVariants.{Put, Del}
use Rattle.bw_rows.specs.Spelling.{Bytes, doomed_key, free_key, chunk_key, chunk_place, row_place, head_row, chunk_of, chunks_in}
use Rattle.bw_rows.specs.Meaning.{Plain, Tables, chunks_of, with_value}
use Rattle.bw_rows.specs.Law.{head_at, is_doomed}
use Rattle.bw_rows.specs.Steps.{after, step_of}
use Rattle.bw_rows.specs.declared.rows.Head.{Head}
use Rattle.bw_rows.specs.Laws.{IsTables, IsUnnamed, HasNumber}

-- a chunk of a value under a number
abbrev pub chunk_record : Bytes → Bytes → ℕ → Record
chunk_record n value i = Put (chunk_key (chunk_place n i)) (chunk_of value i)

-- so many chunks, from this one on
abbrev pub chunk_records : Bytes → Bytes → ℕ → ℕ → List Record
chunk_records n value i zero = []
chunk_records n value i (suc k) = chunk_records n value i k ++ chunk_record n value (i + k) ∷ []

-- a number is taken: it is doomed, and free no more
abbrev pub taking : Bytes → List Record
taking n = Put (doomed_key n) [] ∷ Del (free_key n) ∷ []

-- a long value is being written: its number is doomed, its first chunks are there, and the tables are as they were
pub record IsWriting (tables : Tables) (p : Plain) (n value : Bytes) (count : ℕ) : Type 0 where
  pub stays : IsTables tables p
  pub doomed : is_doomed p n ≡ true
  pub chunks : (i : ℕ) → i < count → chunks_of p n i ≡ Some (chunk_of value i)

-- what a row names, as its two parts
abbrev pub named : Option Head → Option (Bytes × ℕ)
named head = option_map (λ h. (h.number.bytes, h.len)) head

-- a row is written at a key, or goes away
abbrev pub row_to : Bytes → Option Bytes → Record
row_to key None = Del key
row_to key (Some row) = Put key row

-- ---- the laws of these groups

-- if no row names a number, it may be taken
abbrev pub TakingIsLawful : Type 0
TakingIsLawful = (tables : Tables) (p : Plain) (n value : Bytes) → IsTables tables p → IsUnnamed p n → IsWriting tables (after p (taking n)) n value 0

-- more chunks are written
abbrev pub ChunksAreLawful : Type 0
ChunksAreLawful = (tables : Tables) (p : Plain) (n value : Bytes) (i k : ℕ) → length n ≡ 8 → i + k < 2 ^ 32 → IsWriting tables p n value i
    → IsWriting tables (after p (chunk_records n value i k)) n value (i + k)

-- after the last chunk the group of the row is the step
abbrev pub LongIsTheStep : Type 0
LongIsTheStep = (tables : Tables) (p : Plain) (name t key n value : Bytes) → length n ≡ 8 → 0 < length value → length value < 2 ^ 64
    → IsWriting tables p n value (chunks_in (length value)) → HasNumber p name t
    → IsTables (with_value tables name key (Some value))
    (after p (step_of (row_place t key) (Some (head_row n (length value))) (head_at p (row_place t key))))

pub record APutIsOneStep : Type 0 where
  pub taking : TakingIsLawful
  pub chunks : ChunksAreLawful
  pub step : LongIsTheStep
