-- What each group of a call makes of the tables.

use Rattle.std.specs.Prelude.{◌≡◌, ℕ, List, length, Option, Some, None}
use Rattle.bw_record.specs.declared.record.Record.{Record}
use Rattle.bw_rows.specs.Spelling.{Bytes, name_key, gone_key, row_place, aside_key, chunks_in}
use Rattle.bw_rows.specs.Meaning.{Plain, Tables, with_value}
use Rattle.bw_rows.specs.Law.{head_at}
use Rattle.bw_rows.specs.Steps.{after}
use Rattle.bw_rows.specs.Laws.{IsTables, IsUnnamed, IsNoTable, HasNoRow, HasNoChunk, HasNumber, with_table, empty_table}
use Rattle.bw_rows.specs.Batches.{said, batched, FitsAside, HasAsides, IsGathering, IsStanding}
use Rattle.bw_tables.specs.Writing.{IsWriting}

-- the tables stay, and the first chunks of a value are there after its number, which no row named
abbrev pub Begins : Bytes → Bytes → ℕ → List Record → Type 0
Begins n value count group = (tables : Tables) (p : Plain) → IsTables tables p → IsUnnamed p n → IsWriting tables (after p group) n value count

-- the tables stay, and chunks up to this one are there
abbrev pub GoesOn : Bytes → Bytes → ℕ → ℕ → List Record → Type 0
GoesOn n value from to group = (tables : Tables) (p : Plain) → IsWriting tables p n value from → IsWriting tables (after p group) n value to

-- a key whose row named this has a long value from then on, all chunks of which are there; all others have theirs
abbrev pub MakesLong : Bytes → Bytes → Bytes → Bytes → Option (Bytes × ℕ) → List Record → Type 0
MakesLong t key n value old group =
    (tables : Tables) (p : Plain) (name : Bytes) → IsWriting tables p n value (chunks_in (length value)) → HasNumber p name t → head_at p (row_place t key) ≡ old
    → IsTables (with_value tables name key (Some value)) (after p group)

-- a key whose row named this has a short value from then on, or none; all others have theirs
abbrev pub MakesShort : Bytes → Bytes → Option Bytes → Option (Bytes × ℕ) → List Record → Type 0
MakesShort t key value old group =
    (tables : Tables) (p : Plain) (name : Bytes) → IsTables tables p → HasNumber p name t → head_at p (row_place t key) ≡ old
    → IsTables (with_value tables name key value) (after p group)

-- the tables stay, and a number with no chunk is doomed no more
abbrev pub Frees : Bytes → List Record → Type 0
Frees n group = (tables : Tables) (p : Plain) → IsTables tables p → HasNoChunk p n → IsTables tables (after p group)

-- the row of a key is written aside, so the batch makes one change more
abbrev pub SetsAside : Bytes → Bytes → Bytes → List Record → Type 0
SetsAside t key row group =
    (tables next : Tables) (p : Plain) (name : Bytes) → IsGathering tables next p → HasNumber p name t → FitsAside p row
    → IsGathering tables (with_value next name key (said p (Some row) None)) (after p group)

-- all changes that stand aside are made at once
abbrev pub MakesBatch : List Record → Type 0
MakesBatch group = (tables : Tables) (p : Plain) → IsTables tables p → HasAsides p → IsStanding (batched p) (after p group)

-- a row aside, whose row named this, is carried out: the tables stay
abbrev pub CarriesOut : Bytes → Bytes → Option (Bytes × ℕ) → List Record → Type 0
CarriesOut place aside old group =
    (tables : Tables) (p : Plain) → IsStanding tables p → p (aside_key place) ≡ Some aside → head_at p place ≡ old → IsStanding tables (after p group)

-- nothing is left aside, and the batch stands no more: the tables stay
abbrev pub EndsBatch : List Record → Type 0
EndsBatch group = (tables : Tables) (p : Plain) → IsStanding tables p → ((k : Bytes) → p (aside_key k) ≡ None) → IsTables tables (after p group)

-- a table with no key comes, under a number that no table and no row has
abbrev pub MakesTable : Bytes → Bytes → List Record → Type 0
MakesTable name t group =
    (tables : Tables) (p : Plain) → IsTables tables p → p (name_key name) ≡ None → IsNoTable p t → HasNoRow p t
    → IsTables (with_table tables name (Some empty_table)) (after p group)

-- a table goes away, which has this number
abbrev pub DropsTable : Bytes → Bytes → List Record → Type 0
DropsTable name t group = (tables : Tables) (p : Plain) → IsTables tables p → HasNumber p name t → IsTables (with_table tables name None) (after p group)

-- a row that no table has goes away, which named this: the tables stay
abbrev pub DropsRow : Bytes → Bytes → Option (Bytes × ℕ) → List Record → Type 0
DropsRow t key old group =
    (tables : Tables) (p : Plain) → IsTables tables p → IsNoTable p t → head_at p (row_place t key) ≡ old → IsTables tables (after p group)

-- names, numbers that are gone, and rows aside stay as they are
pub record KeepsMarks (group : List Record) : Type 0 where
  pub names : (p : Plain) (name : Bytes) → after p group (name_key name) ≡ p (name_key name)
  pub gone : (p : Plain) (t : Bytes) → after p group (gone_key t) ≡ p (gone_key t)
  pub asides : (p : Plain) (k : Bytes) → after p group (aside_key k) ≡ p (aside_key k)
