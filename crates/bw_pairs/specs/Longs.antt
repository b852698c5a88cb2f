-- Words of tables: names, keys, and values, which may be longer than those of a store.

use Rattle.std.specs.Prelude.{ℕ, ◌&&◌, nat_le, if◌then◌else◌, List, length, Option, Some, None, option_and_then}
use Rattle.std.specs.Result.{result_ok}
use Rattle.hex.specs.Hex.{decode_of}
use Rattle.bw_pairs.specs.Words.{meant}

-- bytes as a name, as a key and as a value of a table, if they are not too few or too many
abbrev pub as_name : List ℕ → Option (List ℕ)
as_name bytes = if nat_le 1 (length bytes) && nat_le (length bytes) 127 then Some bytes else None

abbrev pub as_row_key : List ℕ → Option (List ℕ)
as_row_key bytes = if nat_le 1 (length bytes) && nat_le (length bytes) 124 then Some bytes else None

abbrev pub as_long : List ℕ → Option (List ℕ)
as_long bytes = if nat_le (length bytes) 16777216 then Some bytes else None

-- what a word stands for
abbrev pub name_meant : List ℕ → Option (List ℕ)
name_meant bytes = option_and_then as_name (meant bytes)

abbrev pub row_key_meant : List ℕ → Option (List ℕ)
row_key_meant bytes = option_and_then as_row_key (meant bytes)

abbrev pub long_meant : List ℕ → Option (List ℕ)
long_meant bytes = option_and_then as_long (meant bytes)

-- what hex digits stand for
abbrev pub long_digits : List ℕ → Option (List ℕ)
long_digits digits = option_and_then as_long (result_ok (decode_of digits))
