-- The definitions, evaluated on worked bytes: table `users` is number 1, and its value number 7 has 1,025 bytes.

use Rattle.std.specs.Prelude.{◌≡◌, List, [], ◌∷◌, ◌++◌, Option, Some, None}
use Rattle.std.specs.Option.{option_and_then}
use Rattle.bw_record.specs.declared.record.Record.{Record}
use Rattle.bw_record.specs.declared.record.Record.TheVariants.{Put}
use Rattle.bw_rows.specs.Spelling.{Bytes, eight, name_key, doomed_key, stands_key, aside_key, chunk_key, chunk_place, row_key, row_place, whole_row, head_row, no_row, head_of, chunks_in}
use Rattle.bw_rows.specs.Meaning.{Plain, Table, tables_of}
use Rattle.bw_rows.specs.Steps.{after, row_group}

-- `users`, `user`, `ab`, `a`, `hi`
abbrev pub users : Bytes
users = 117 ∷ 115 ∷ 101 ∷ 114 ∷ 115 ∷ []

abbrev pub user : Bytes
user = 117 ∷ 115 ∷ 101 ∷ 114 ∷ []

abbrev pub ab : Bytes
ab = 97 ∷ 98 ∷ []

abbrev pub a : Bytes
a = 97 ∷ []

abbrev pub hi : Bytes
hi = 104 ∷ 105 ∷ []

abbrev pub one : Bytes
one = 0 ∷ 1 ∷ []

abbrev pub seven : Bytes
seven = 0 ∷ 0 ∷ 0 ∷ 0 ∷ 0 ∷ 0 ∷ 0 ∷ 7 ∷ []

-- the table, and a row
abbrev pub with_hi : List Record
with_hi = Put (name_key users) (0 ∷ 1 ∷ 1 ∷ []) ∷ Put (row_key (row_place one ab)) (whole_row hi) ∷ []

abbrev pub nothing : Plain
nothing q = None

-- what a table has at a key, after these records
abbrev pub told : List Record → Bytes → Bytes → Option Bytes
told records name key = option_and_then (λ (table : Table). table key) (tables_of (after nothing records) name)

pub record AreSpelled : Type 0 where
  pub number : eight 7 ≡ seven
  pub name : name_key users ≡ 1 ∷ 117 ∷ 115 ∷ 101 ∷ 114 ∷ 115 ∷ []
  pub row : row_key (row_place one ab) ≡ 8 ∷ 0 ∷ 1 ∷ 97 ∷ 98 ∷ []
  pub doomed : doomed_key seven ≡ 2 ∷ 0 ∷ 0 ∷ 0 ∷ 0 ∷ 0 ∷ 0 ∷ 0 ∷ 7 ∷ []
  pub chunk : chunk_key (chunk_place seven 2) ≡ 7 ∷ 0 ∷ 0 ∷ 0 ∷ 0 ∷ 0 ∷ 0 ∷ 0 ∷ 7 ∷ 0 ∷ 0 ∷ 0 ∷ 2 ∷ []
  pub whole : whole_row hi ≡ 0 ∷ 104 ∷ 105 ∷ []
  pub head : head_row seven 1025 ≡ 1 ∷ 0 ∷ 0 ∷ 0 ∷ 0 ∷ 0 ∷ 0 ∷ 0 ∷ 7 ∷ 0 ∷ 0 ∷ 0 ∷ 0 ∷ 0 ∷ 0 ∷ 4 ∷ 1 ∷ []
  pub named : head_of (head_row seven 1025) ≡ Some (seven, 1025)
  pub itself : head_of (whole_row hi) ≡ None
  pub one_chunk : chunks_in 512 ≡ 1
  pub two_chunks : chunks_in 1024 ≡ 2
  pub three_chunks : chunks_in 1025 ≡ 3

pub record AreTold : Type 0 where
  pub value : told with_hi users ab ≡ Some hi
  pub beginning : told with_hi users a ≡ None
  pub no_table : tables_of (after nothing with_hi) user ≡ None
  -- a delete, and a put of the empty value
  pub deleted : told (with_hi ++ row_group (row_place one ab) None None None) users ab ≡ None
  pub emptied : told (with_hi ++ row_group (row_place one ab) (Some (whole_row [])) None None) users ab ≡ Some []
  -- a long value
  pub long : told (with_hi ++ Put (chunk_key (chunk_place seven 0)) hi ∷ Put (row_key (row_place one ab)) (head_row seven 2) ∷ []) users ab ≡ Some hi
  -- a row aside, before its batch stands and from then on
  pub aside : told (with_hi ++ Put (aside_key (row_place one ab)) no_row ∷ []) users ab ≡ Some hi
  pub stands : told (with_hi ++ Put (aside_key (row_place one ab)) no_row ∷ Put stands_key [] ∷ []) users ab ≡ None
