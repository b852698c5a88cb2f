-- What a walk over the names of tables finds, from the last to the first.

use Rattle.std.specs.Prelude.{◌≡◌, ◌<◌, false, Some}
use Rattle.bw_record.specs.Keys.{is_below}
use Rattle.bw_rows.specs.Spelling.{Bytes, name_key}
use Rattle.bw_rows.specs.Meaning.{Plain, table_in}
use Rattle.bw_rows.specs.Laws.{IsNoTable, IsOfTable}
use Rattle.bw_calls.specs.Changes.{kind_in}
use Rattle.bw_calls.specs.declared.naming.Looked.{Looked}
use Rattle.bw_calls.specs.declared.naming.Looked.TheVariants.{Below, Last, Taken}

-- no name at or above this key has this number
abbrev pub IsNoneFrom : Plain → Bytes → Bytes → Type 0
IsNoneFrom p at t = (name row : Bytes) → is_below (name_key name) at ≡ false → p (name_key name) ≡ Some row → table_in row ≡ t → ⊥

-- what a key, with what stands at it, says of the number
abbrev pub Judges : Bytes → Bytes → Bytes → Looked → Type 0
Judges key row t Taken = (kind_in key ≡ 1) × (table_in row ≡ t)
Judges key row t (Below next) = (next ≡ key) × (kind_in key ≡ 1 → table_in row ≡ t → ⊥)
Judges key row t Last = kind_in key < 1

-- what a look at the last name below a key says, if none at or above it has the number
abbrev pub HasLooked : Plain → Bytes → Bytes → Looked → Type 0
HasLooked p at t Taken = IsOfTable p t
HasLooked p at t (Below next) = IsNoneFrom p at t → IsNoneFrom p next t
HasLooked p at t Last = IsNoneFrom p at t → IsNoTable p t
