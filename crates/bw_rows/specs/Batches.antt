-- A batch: rows that are written aside, the mark that makes them stand, and the groups that carry them out.

use Rattle.std.specs.Prelude.{◌≡◌, ◌<◌, ◌⊎◌, ℕ, [], true, cond, length, take, Option, Some, None, is_some}
use Rattle.std.specs.Option.{option_map}
use Rattle.bw_rows.specs.Spelling.{Bytes, same, name_key, gone_key, stands_key, aside_key, row_place, no_row, chunks_in}
use Rattle.bw_rows.specs.Meaning.{Plain, Tables, chunks_of, over, value_of, found, tables_of, table_in, with_value}
use Rattle.bw_rows.specs.Law.{head_at, is_doomed, HasValues, HasNames, IsWhole}
use Rattle.bw_rows.specs.Steps.{with, after, head_in, carry_of}
use Rattle.bw_rows.specs.Laws.{IsTables, HasHomes, HasNumber, IsKnown}

-- what the row aside at a place names
abbrev pub head_aside : Plain → Bytes → Option (Bytes × ℕ)
head_aside p place = head_in (p (aside_key place))

pub record HasAsides (p : Plain) : Type 0 where
  -- a long value aside has a chunk
  pub long : (k n : Bytes) (len : ℕ) → head_aside p k ≡ Some (n, len) → 0 < chunks_in len
  -- a long value aside has all its chunks
  pub full : (k n : Bytes) (len i : ℕ) → head_aside p k ≡ Some (n, len) → i < chunks_in len → is_some (chunks_of p n i) ≡ true
  -- a number has one row aside
  pub once : (k q n : Bytes) (c d : ℕ) → head_aside p k ≡ Some (n, c) → head_aside p q ≡ Some (n, d) → k ≡ q
  -- what a row aside names is doomed, up to the group that carries it out
  pub doomed : (k n : Bytes) (c : ℕ) → head_aside p k ≡ Some (n, c) → is_doomed p n ≡ true
  -- a row aside is of a number that a table has, or that is gone
  pub homes : (k : Bytes) → is_some (p (aside_key k)) ≡ true → IsKnown p (take 2 k)

-- a batch stands, and these are the tables
pub record IsStanding (tables : Tables) (p : Plain) : Type 0 where
  pub values : HasValues p
  pub names : HasNames p
  pub homes : HasHomes p
  pub stands : is_some (p stands_key) ≡ true
  pub asides : HasAsides p
  pub its : tables_of p ≡ tables

-- what a row aside says of the value at its place
abbrev pub said : Plain → Option Bytes → Option Bytes → Option Bytes
said p None value = value
said p (Some aside) value = cond (same aside no_row) None (Some (value_of p aside))

-- the tables, with all that stands aside
abbrev pub batched : Plain → Tables
batched p name = option_map (λ row key. said p (p (aside_key (row_place (table_in row) key))) (found p (row_place (table_in row) key))) (p (name_key name))

-- these are the tables: no batch stands, or one that is being carried out
abbrev pub IsLeft : Tables → Plain → Type 0
IsLeft tables p = IsTables tables p ⊎ IsStanding tables p

-- ---- a batch is being written

-- nothing stands aside
abbrev pub HasNoAside : Plain → Type 0
HasNoAside p = (k : Bytes) → p (aside_key k) ≡ None

-- no row aside names this number
abbrev pub IsNotAside : Plain → Bytes → Type 0
IsNotAside p n = (k : Bytes) (len : ℕ) → head_aside p k ≡ Some (n, len) → ⊥

-- the tables are as they were, and these are the ones that the batch makes, as far as it is written
pub record IsGathering (tables next : Tables) (p : Plain) : Type 0 where
  pub stays : IsTables tables p
  pub asides : HasAsides p
  pub makes : batched p ≡ next

-- only what stands under one number is another: its chunks, and whether it is doomed
pub record HasOthers (n : Bytes) (p new : Plain) : Type 0 where
  pub names : (name : Bytes) → new (name_key name) ≡ p (name_key name)
  pub asides : (k : Bytes) → new (aside_key k) ≡ p (aside_key k)
  pub gone : (t : Bytes) → new (gone_key t) ≡ p (gone_key t)
  pub chunks : (m : Bytes) (i : ℕ) → length m ≡ 8 → (m ≡ n → ⊥) → chunks_of new m i ≡ chunks_of p m i
  pub doomed : (m : Bytes) → (m ≡ n → ⊥) → is_doomed new m ≡ is_doomed p m

-- a row may be written aside: what it names is doomed, has all its chunks, and is named by no other
pub record FitsAside (p : Plain) (row : Bytes) : Type 0 where
  pub whole : IsWhole p (Some row)
  pub apart : (n : Bytes) (len : ℕ) → head_in (Some row) ≡ Some (n, len) → IsNotAside p n

-- if nothing is aside, a batch makes no change so far
abbrev pub NothingIsGathered : Type 0
NothingIsGathered = (tables : Tables) (p : Plain) → IsTables tables p → HasNoAside p → IsGathering tables tables p

-- a number whose first chunk is not there is named by no row aside
abbrev pub FreshIsNotAside : Type 0
FreshIsNotAside = (p : Plain) (n : Bytes) → HasAsides p → chunks_of p n 0 ≡ None → IsNotAside p n

-- a long value is written under a number that no row aside names: the batch is as it was
abbrev pub ANumberIsSilent : Type 0
ANumberIsSilent = (tables next : Tables) (p new : Plain) (n : Bytes) → IsGathering tables next p → IsNotAside p n → HasOthers n p new → IsTables tables new
    → IsGathering tables next new × IsNotAside new n

-- a row is written aside: the batch makes one change more
abbrev pub AnAsideIsGathered : Type 0
AnAsideIsGathered = (tables next : Tables) (p : Plain) (name t key row : Bytes) → IsGathering tables next p → HasNumber p name t → FitsAside p row
    → IsGathering tables (with_value next name key (said p (Some row) None)) (with p (aside_key (row_place t key)) (Some row))

pub record ABatchIsGathered : Type 0 where
  pub nothing : NothingIsGathered
  pub fresh : FreshIsNotAside
  pub number : ANumberIsSilent
  pub aside : AnAsideIsGathered

-- ---- the groups of a batch

-- a row is written aside, or dropped there, before the batch stands: the tables stay
abbrev pub AsideIsSilent : Type 0
AsideIsSilent = (tables : Tables) (p : Plain) (k : Bytes) (row : Option Bytes) → IsTables tables p → IsTables tables (with p (aside_key k) row)

-- the batch stands, after all its rows and their chunks: each of its changes is made, and nothing
-- else
abbrev pub MarkIsTheStep : Type 0
MarkIsTheStep = (tables : Tables) (p : Plain) → IsTables tables p → HasAsides p → IsStanding (batched p) (with p stands_key (Some []))

-- a row is carried out: the tables stay
abbrev pub CarryIsSilent : Type 0
CarryIsSilent = (tables : Tables) (p : Plain) (k aside : Bytes) → IsStanding tables p → p (aside_key k) ≡ Some aside
    → IsStanding tables (after p (carry_of k (over (Some aside) None) (head_at p k)))

-- after the last of them the batch stands no more: the tables stay
abbrev pub EndIsSilent : Type 0
EndIsSilent = (tables : Tables) (p : Plain) → IsStanding tables p → ((k : Bytes) → p (aside_key k) ≡ None) → IsTables tables (with p stands_key None)

pub record ABatchIsOneStep : Type 0 where
  pub aside : AsideIsSilent
  pub mark : MarkIsTheStep
  pub carry : CarryIsSilent
  pub end : EndIsSilent
