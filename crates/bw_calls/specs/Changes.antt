-- What calls make of a plain map and its tables.

use Rattle.std.specs.Prelude.{◌≡◌, ℕ, [], ◌∷◌, true, false, IsTrue, nat_eq, take, Option, Some, None, is_some}
use Rattle.std.specs.List.{starts_with}
use Rattle.std.specs.Option.{option_and_then}
use Rattle.bw_rows.specs.Spelling.{Bytes, name_key, gone_key, aside_key, row_key}
use Rattle.bw_rows.specs.Meaning.{Plain, Table, Tables, tables_of, with_value}
use Rattle.bw_rows.specs.Law.{is_doomed}
use Rattle.bw_rows.specs.Laws.{IsTables, HasNumber, IsOfTable}
use Rattle.bw_rows.specs.Batches.{HasNoAside}

-- what a table of this name has at a key
abbrev pub value_at : Tables → Bytes → Bytes → Option Bytes
value_at tables name key = option_and_then (λ (table : Table). table key) (tables name)

-- the table of this number has this value at a key, or none; all else is as it was
abbrev pub IsSet : Plain → Bytes → Bytes → Option Bytes → Plain → Type 0
IsSet p t key value new = (name : Bytes) → HasNumber p name t → IsTables (with_value (tables_of p) name key value) new

-- names and rows are as they were
pub record HasSame (p new : Plain) : Type 0 where
  pub names : (name : Bytes) → new (name_key name) ≡ p (name_key name)
  pub rows : (k : Bytes) → new (row_key k) ≡ p (row_key k)

-- names, numbers that are gone, and rows aside are as they were
pub record HasSameMarks (p new : Plain) : Type 0 where
  pub names : (name : Bytes) → new (name_key name) ≡ p (name_key name)
  pub gone : (t : Bytes) → new (gone_key t) ≡ p (gone_key t)
  pub asides : (k : Bytes) → new (aside_key k) ≡ p (aside_key k)

-- rows aside are as they were
pub record HasSameAsides (p new : Plain) : Type 0 where
  pub asides : (k : Bytes) → new (aside_key k) ≡ p (aside_key k)

-- no number is gone
abbrev pub HasNoneGone : Plain → Type 0
HasNoneGone p = (t : Bytes) → p (gone_key t) ≡ None

-- each row is of a table: of one that went away none is left
abbrev pub IsOfTables : Plain → Type 0
IsOfTables p = (k : Bytes) → is_some (p (row_key k)) ≡ true → IsOfTable p (take 2 k)

-- no number is doomed
abbrev pub IsClean : Plain → Type 0
IsClean p = (n : Bytes) → is_doomed p n ≡ false

-- nothing is left half done: no number is doomed or gone, and no row is aside
pub record IsFinished (p : Plain) : Type 0 where
  pub clean : IsClean p
  pub gone : HasNoneGone p
  pub asides : HasNoAside p

-- the first byte of a key
abbrev pub kind_in : Bytes → ℕ
kind_in [] = 0
kind_in (kind ∷ rest) = kind

-- the first pair whose key begins so, if there is one
abbrev pub IsFirstOf : Plain → Bytes → Option (Bytes × Bytes) → Type 0
IsFirstOf p prefix None = (q : Bytes) → IsTrue (starts_with nat_eq q prefix) → p q ≡ None
IsFirstOf p prefix (Some pair) = (p pair.0 ≡ Some pair.1) × IsTrue (starts_with nat_eq pair.0 prefix)

-- a number is being collected: it is doomed, and the tables are as they were
pub record IsCollecting (tables : Tables) (p : Plain) (n : Bytes) : Type 0 where
  pub stays : IsTables tables p
  pub doomed : is_doomed p n ≡ true
