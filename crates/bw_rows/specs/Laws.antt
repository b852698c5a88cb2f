-- The law of each group that a call writes: the map stays lawful, and what its tables are.

use Rattle.std.specs.Prelude.{◌≡◌, ◌<◌, ◌⊎◌, ℕ, true, false, [], ◌∷◌, take, length, cond, Option, Some, None, is_some}
use Rattle.std.specs.Option.{option_map}
use Rattle.bw_record.specs.declared.record.Record.TheVariants.{Put, Del}
use Rattle.bw_rows.specs.Spelling.{Bytes, same, mark_key, name_key, doomed_key, gone_key, free_key, stands_key, chunk_key, chunk_place, row_key, row_place, chunk_of, chunks_in}
use Rattle.bw_rows.specs.Meaning.{Plain, Table, Tables, chunks_of, joined, value_of, tables_of, table_in, with_value}
use Rattle.bw_rows.specs.Law.{head_at, is_doomed, HasValues, HasNames}
use Rattle.bw_rows.specs.Steps.{with, after, head_in, step_of}

-- the table of a name has this number
abbrev pub HasNumber : Plain → Bytes → Bytes → Type 0
HasNumber p name t = option_map table_in (p (name_key name)) ≡ Some t

-- some table has it
abbrev pub IsOfTable : Plain → Bytes → Type 0
IsOfTable p t = (name : Bytes) × HasNumber p name t

-- some table has it, or it is gone
abbrev pub IsKnown : Plain → Bytes → Type 0
IsKnown p t = IsOfTable p t ⊎ (is_some (p (gone_key t)) ≡ true)

-- each row is of such a number
abbrev pub HasHomes : Plain → Type 0
HasHomes p = (k : Bytes) → is_some (p (row_key k)) ≡ true → IsKnown p (take 2 k)

-- values, names and rows are lawful, and no batch stands
pub record IsLawful (p : Plain) : Type 0 where
  pub values : HasValues p
  pub names : HasNames p
  pub homes : HasHomes p
  pub quiet : p stands_key ≡ None

-- lawful, with these tables
pub record IsTables (tables : Tables) (p : Plain) : Type 0 where
  pub lawful : IsLawful p
  pub its : tables_of p ≡ tables

-- no row names this number
abbrev pub IsUnnamed : Plain → Bytes → Type 0
IsUnnamed p n = (k : Bytes) (len : ℕ) → head_at p k ≡ Some (n, len) → ⊥

-- no chunk has this number
abbrev pub HasNoChunk : Plain → Bytes → Type 0
HasNoChunk p n = (c : Bytes) → take 8 c ≡ n → is_some (p (chunk_key c)) ≡ false

-- the first chunks of a number are there
abbrev pub HasChunks : Plain → Bytes → ℕ → Type 0
HasChunks p n count = (i : ℕ) → i < count → is_some (chunks_of p n i) ≡ true

-- ---- before the step

-- a number that no row names is doomed: the tables stay
abbrev pub DoomIsLawful : Type 0
DoomIsLawful = (tables : Tables) (p : Plain) (n : Bytes) → IsTables tables p → IsUnnamed p n → IsTables tables (with p (doomed_key n) (Some []))

-- a chunk of a doomed number is written or dropped: the tables stay
abbrev pub ChunkIsLawful : Type 0
ChunkIsLawful = (tables : Tables) (p : Plain) (n : Bytes) (i : ℕ) (chunk : Option Bytes) → length n ≡ 8 → IsTables tables p → is_doomed p n ≡ true
    → IsTables tables (with p (chunk_key (chunk_place n i)) chunk)

-- a number is free, or no more: the tables stay
abbrev pub FreeIsLawful : Type 0
FreeIsLawful = (tables : Tables) (p : Plain) (n : Bytes) (mark : Option Bytes) → IsTables tables p → IsTables tables (with p (free_key n) mark)

-- after its last chunk a number is doomed no more: the tables stay
abbrev pub EndIsLawful : Type 0
EndIsLawful = (tables : Tables) (p : Plain) (n : Bytes) → IsTables tables p → HasNoChunk p n → IsTables tables (with p (doomed_key n) None)

-- ---- the step

-- a row that is the value itself, or none, is written: one key has it, and all others have theirs
abbrev pub ShortIsTheStep : Type 0
ShortIsTheStep = (tables : Tables) (p : Plain) (name t key : Bytes) (row : Option Bytes) → IsTables tables p → HasNumber p name t → head_in row ≡ None
    → IsTables (with_value tables name key (option_map (value_of p) row)) (after p (step_of (row_place t key) row (head_at p (row_place t key))))

-- a row that names chunks is written, after all of them: one key has them, and all others have
-- theirs
abbrev pub HeadIsTheStep : Type 0
HeadIsTheStep = (tables : Tables) (p : Plain) (name t key row n : Bytes) (len : ℕ) → IsTables tables p → HasNumber p name t
    → head_in (Some row) ≡ Some (n, len) → 0 < chunks_in len → is_doomed p n ≡ true → HasChunks p n (chunks_in len)
    → IsTables (with_value tables name key (Some (joined (chunks_of p n) (chunks_in len))))
    (after p (step_of (row_place t key) (Some row) (head_at p (row_place t key))))

-- a number whose first chunk is not there is named by no row: it may be taken
abbrev pub FreshIsUnnamed : Type 0
FreshIsUnnamed = (p : Plain) (n : Bytes) → HasValues p → chunks_of p n 0 ≡ None → IsUnnamed p n

pub record EachGroupIsLawful : Type 0 where
  pub fresh : FreshIsUnnamed
  pub doom : DoomIsLawful
  pub chunk : ChunkIsLawful
  pub free : FreeIsLawful
  pub end : EndIsLawful
  pub short : ShortIsTheStep
  pub head : HeadIsTheStep

-- ---- names of tables

-- the table of a name is this one, or there is none
abbrev pub with_table : Tables → Bytes → Option Table → Tables
with_table tables name table n = cond (same n name) table (tables n)

abbrev pub empty_table : Table
empty_table key = None

-- no table has this number
abbrev pub IsNoTable : Plain → Bytes → Type 0
IsNoTable p t = (name row : Bytes) → p (name_key name) ≡ Some row → table_in row ≡ t → ⊥

-- a table gets a number that no table and no row has
abbrev pub CreateIsTheStep : Type 0
CreateIsTheStep = (tables : Tables) (p : Plain) (name row mark : Bytes) → IsTables tables p → p (name_key name) ≡ None → length (table_in row) ≡ 2 → IsNoTable p (table_in row)
    → ((key : Bytes) → p (row_key (row_place (table_in row) key)) ≡ None)
    → IsTables (with_table tables name (Some empty_table)) (after p (Put (name_key name) row ∷ Put mark_key mark ∷ []))

-- a table goes away with its name, and its number is gone in the same group
abbrev pub DropIsTheStep : Type 0
DropIsTheStep = (tables : Tables) (p : Plain) (name t : Bytes) → IsTables tables p → HasNumber p name t
    → IsTables (with_table tables name None) (after p (Del (name_key name) ∷ Put (gone_key t) [] ∷ []))

-- a row of a number that no table has goes away: the tables stay
abbrev pub GoneRowIsLawful : Type 0
GoneRowIsLawful = (tables : Tables) (p : Plain) (t key : Bytes) → IsTables tables p → length t ≡ 2 → IsNoTable p t
    → IsTables tables (after p (step_of (row_place t key) None (head_at p (row_place t key))))

-- no row has this number
abbrev pub HasNoRow : Plain → Bytes → Type 0
HasNoRow p t = (key : Bytes) → p (row_key (row_place t key)) ≡ None

-- after its last row the number is gone no more, and if a table has it
abbrev pub GoneIsLawful : Type 0
GoneIsLawful = (tables : Tables) (p : Plain) (t : Bytes) → IsTables tables p → HasNoRow p t ⊎ IsOfTable p t → IsTables tables (with p (gone_key t) None)

-- if no number is gone, each row is of a table
abbrev pub NothingIsLeft : Type 0
NothingIsLeft = (p : Plain) (k : Bytes) → IsLawful p → ((t : Bytes) → p (gone_key t) ≡ None) → is_some (p (row_key k)) ≡ true → IsOfTable p (take 2 k)

pub record TablesComeAndGo : Type 0 where
  pub create : CreateIsTheStep
  pub drop : DropIsTheStep
  pub gone_row : GoneRowIsLawful
  pub gone : GoneIsLawful
  pub nothing : NothingIsLeft

-- ---- chunks

abbrev pub ChunksMakeTheValue : Type 0
ChunksMakeTheValue = (chunks : ℕ → Option Bytes) (value : Bytes) → ((i : ℕ) → i < chunks_in (length value) → chunks i ≡ Some (chunk_of value i))
    → joined chunks (chunks_in (length value)) ≡ value
