-- A walk over the keys of a table, in their order.

use Rattle.std.specs.Prelude.{◌≡◌, ℕ, false, IsTrue, Option, Some, None}
use Rattle.std.specs.Option.{option_map}
use Rattle.std.specs.declared.alloc.Global.{Global}
use Rattle.std.specs.declared.vec.Vec.{Vec}
use Rattle.bw_record.specs.Keys.{is_below}
use Rattle.bw_rows.specs.Spelling.{Bytes, row_key, row_place}
use Rattle.bw_rows.specs.Meaning.{Plain, Table, value_of}

-- a table has this pair, at or above a key, and none between the two
pub record IsNextPair (table : Table) (from : Bytes) (pair : Bytes × Bytes) : Type 0 where
  pub its : table pair.0 ≡ Some pair.1
  pub upto : is_below pair.0 from ≡ false
  pub none : (q : Bytes) → is_below q from ≡ false → IsTrue (is_below q pair.0) → table q ≡ None

-- the first pair of a table at or above a key, if there is one; and none if there is no table
abbrev pub IsNextIn : Option Table → Bytes → Option (Bytes × Bytes) → Type 0
IsNextIn None from pair = pair ≡ None
IsNextIn (Some table) from None = (q : Bytes) → is_below q from ≡ false → table q ≡ None
IsNextIn (Some table) from (Some pair) = IsNextPair table from pair

-- the rows of a table's number, as a table
abbrev pub rows_of : Plain → Bytes → Table
rows_of p t key = p (row_key (row_place t key))

-- and as a table of what they stand for
abbrev pub table_by : Plain → Bytes → Table
table_by p t key = option_map (value_of p) (rows_of p t key)

-- the key and the bytes of a pair that was read
abbrev pub told : Option (Bytes × Vec ℕ Global) → Option (Bytes × Bytes)
told pair = option_map {T = Bytes × Vec ℕ Global} {U = Bytes × Bytes} (λ p. (p.0, p.1.items)) pair

-- the key of a row of this number, if the key of the store was one
abbrev pub IsRowOf : Option (Bytes × Bytes) → Bytes → Option Bytes → Type 0
IsRowOf its t None = (key : Bytes) → its ≡ Some (t, key) → ⊥
IsRowOf its t (Some key) = its ≡ Some (t, key)
