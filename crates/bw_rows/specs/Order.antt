-- Rows in the order of their keys.

use Rattle.std.specs.Prelude.{◌≡◌, true, length, Some}
use Rattle.bw_record.specs.Keys.{is_below}
use Rattle.bw_rows.specs.Spelling.{Bytes, row_key, row_place, row_of}

abbrev pub ReadsBack : Type 0
ReadsBack = (t key : Bytes) → length t ≡ 2 → row_of (row_key (row_place t key)) ≡ Some (t, key)

-- the rows of a table are in the order of its keys
abbrev pub KeepsOrder : Type 0
KeepsOrder = (t a b : Bytes) → is_below (row_key (row_place t a)) (row_key (row_place t b)) ≡ is_below a b

-- all rows of a table are below all of one with a greater number
abbrev pub TablesApart : Type 0
TablesApart = (t u a b : Bytes) → length t ≡ 2 → length u ≡ 2 → is_below t u ≡ true → is_below (row_key (row_place t a)) (row_key (row_place u b)) ≡ true
