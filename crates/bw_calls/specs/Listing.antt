-- The names of tables in their order.

use Rattle.std.specs.Prelude.{◌≡◌, ◌<◌, true, IsTrue, Option, Some, None, is_some}
use Rattle.bw_record.specs.Keys.{is_below}
use Rattle.bw_rows.specs.Spelling.{Bytes, name_key}
use Rattle.bw_rows.specs.Meaning.{Tables}
use Rattle.bw_calls.specs.Changes.{kind_in}

-- all names are meant
abbrev pub IsAnyName : Bytes → Type 0
IsAnyName name = Unit {0}

-- a table that is meant has this name, and none that is meant has a greater one
pub record IsLast (tables : Tables) (Meant : Bytes → Type 0) (name : Bytes) : Type 0 where
  pub its : is_some (tables name) ≡ true
  pub meant : Meant name
  pub none : (n : Bytes) → Meant n → IsTrue (is_below name n) → tables n ≡ None

-- the greatest name of those that are meant, if a table has one
abbrev pub IsLastName : Tables → (Bytes → Type 0) → Option Bytes → Type 0
IsLastName tables Meant None = (n : Bytes) → Meant n → tables n ≡ None
IsLastName tables Meant (Some name) = IsLast tables Meant name

-- the name in a key; none in one below those of names
abbrev pub Names : Bytes → Option Bytes → Type 0
Names key None = kind_in key < 1
Names key (Some name) = key ≡ name_key name
