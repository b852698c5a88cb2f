-- The tables that a plain map stands for.

use Rattle.std.specs.Prelude.{ℕ, zero, suc, ◌++◌, [], take, drop, cond, Option, Some, None, is_some}
use Rattle.std.specs.Option.{option_map}
use Rattle.bw_rows.specs.Spelling.{Bytes, same, stands_key, name_key, aside_key, chunk_key, chunk_place, row_key, row_place, no_row, head_of, chunks_in}

-- what a store has at each key
abbrev pub Plain : Type 0
Plain = Bytes → Option Bytes

-- a table has a value, or none, at each key; and there is a table of a name, or none
abbrev pub Table : Type 0
Table = Bytes → Option Bytes

abbrev pub Tables : Type 0
Tables = Bytes → Option Table

-- ---- values

abbrev pub or_nothing : Option Bytes → Bytes
or_nothing None = []
or_nothing (Some bytes) = bytes

-- the first of these chunks, one after the other
abbrev pub joined : (ℕ → Option Bytes) → ℕ → Bytes
joined chunks zero = []
joined chunks (suc n) = joined chunks n ++ or_nothing (chunks n)

-- the chunks of a value's number
abbrev pub chunks_of : Plain → Bytes → ℕ → Option Bytes
chunks_of p n i = p (chunk_key (chunk_place n i))

abbrev pub value_by : Plain → Bytes → Option (Bytes × ℕ) → Bytes
value_by p row None = drop 1 row
value_by p row (Some head) = joined (chunks_of p head.0) (chunks_in head.1)

-- the value that a row stands for
abbrev pub value_of : Plain → Bytes → Bytes
value_of p row = value_by p row (head_of row)

-- ---- rows

-- what a row aside makes of its row
abbrev pub over : Option Bytes → Option Bytes → Option Bytes
over None row = row
over (Some aside) row = cond (same aside no_row) None (Some aside)

-- the row that counts: if a batch stands, the one aside
abbrev pub counted : Plain → Bytes → Option Bytes
counted p place = cond (is_some (p stands_key)) (over (p (aside_key place)) (p (row_key place))) (p (row_key place))

-- the value at a place
abbrev pub found : Plain → Bytes → Option Bytes
found p place = option_map (value_of p) (counted p place)

-- ---- tables

-- the number of a table, of two bytes, in what stands at its name
abbrev pub table_in : Bytes → Bytes
table_in row = take 2 row

abbrev pub tables_of : Plain → Tables
tables_of p name = option_map (λ row key. found p (row_place (table_in row) key)) (p (name_key name))

-- ---- what calls make of tables

-- one key of one table has this value, or none
abbrev pub with_value : Tables → Bytes → Bytes → Option Bytes → Tables
with_value tables name key value n =
    cond (same n name) (option_map (λ (table : Table) q. cond (same q key) value (table q)) (tables n)) (tables n)
