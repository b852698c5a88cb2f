-- How tables are spelled in a store of small pairs: each key of the store begins with its kind.

use Rattle.std.specs.Prelude.{ℕ, ◌+◌, ◌*◌, ◌/◌, ◌&&◌, Bool, List, [], ◌∷◌, ◌++◌, length, take, drop, nat_eq, cond, Option, Some, None}
use Rattle.std.specs.Int.{w32, w64, to_be_bytes, from_be_bytes}
use Rattle.std.specs.Ordering.{nat_cmp, is_eq}
use Rattle.std.specs.Cmp.Lexicographic.{slice_cmp}

abbrev pub Bytes : Type 0
Bytes = List ℕ

-- whether two keys are one
abbrev pub same : Bytes → Bytes → Bool
same a b = is_eq (slice_cmp nat_cmp a b)

-- ---- numbers, the highest byte first

unfoldable pub four : ℕ → Bytes
four n = to_be_bytes w32 n

unfoldable pub eight : ℕ → Bytes
eight n = to_be_bytes w64 n

-- the number that eight bytes are
unfoldable pub number_in : Bytes → ℕ
number_in bytes = from_be_bytes w64 bytes

-- ---- keys of the store

-- the mark of a folder that has tables
abbrev pub mark_key : Bytes
mark_key = 0 ∷ []

-- a table
abbrev pub name_key : Bytes → Bytes
name_key name = 1 ∷ name

-- a value's number that is doomed: its chunks go away
abbrev pub doomed_key : Bytes → Bytes
doomed_key n = 2 ∷ n

-- a table's number that is gone: its rows go away
abbrev pub gone_key : Bytes → Bytes
gone_key t = 3 ∷ t

-- a value's number that may be taken again
abbrev pub free_key : Bytes → Bytes
free_key n = 4 ∷ n

-- a batch stands
abbrev pub stands_key : Bytes
stands_key = 5 ∷ []

-- what a row becomes: its place is that of the row
abbrev pub aside_key : Bytes → Bytes
aside_key place = 6 ∷ place

-- a chunk of a long value: its place is the value's number and its own
abbrev pub chunk_key : Bytes → Bytes
chunk_key place = 7 ∷ place

abbrev pub chunk_place : Bytes → ℕ → Bytes
chunk_place n i = n ++ four i

-- a row: its place is the number of its table and its own key
abbrev pub row_key : Bytes → Bytes
row_key place = 8 ∷ place

abbrev pub row_place : Bytes → Bytes → Bytes
row_place t key = t ++ key

-- ---- rows

-- a row that is the value itself
abbrev pub whole_row : Bytes → Bytes
whole_row value = 0 ∷ value

-- a row that names a long value by its number and its length
abbrev pub head_row : Bytes → ℕ → Bytes
head_row n len = 1 ∷ (n ++ eight len)

-- a row aside that takes its row away
abbrev pub no_row : Bytes
no_row = 2 ∷ []

-- the number and the length that a row names; none, if it is the value itself
abbrev pub head_of : Bytes → Option (Bytes × ℕ)
head_of [] = None
head_of (kind ∷ rest) = cond (nat_eq kind 1 && nat_eq (length rest) 16) (Some (take 8 rest, number_in (drop 8 rest))) None

-- how many chunks a value of this length has: none of them is empty
abbrev pub chunks_in : ℕ → ℕ
chunks_in len = (len + 511) / 512

-- chunk i of a value: 512 bytes, but for the last
abbrev pub chunk_of : Bytes → ℕ → Bytes
chunk_of value i = take 512 (drop (512 * i) value)

-- the number of a row's table and its own key, in the key of a row aside
abbrev pub aside_of : Bytes → Option (Bytes × Bytes)
aside_of (kind ∷ high ∷ low ∷ key) = cond (nat_eq kind 6) (Some (high ∷ low ∷ [], key)) None
aside_of other = None

-- the number of a row's table and its own key, in the key of a row
abbrev pub row_of : Bytes → Option (Bytes × Bytes)
row_of (kind ∷ high ∷ low ∷ key) = cond (nat_eq kind 8) (Some (high ∷ low ∷ [], key)) None
row_of other = None
