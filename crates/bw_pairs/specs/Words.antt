-- Words: how the bytes of a key or of a value are written, and the bytes that a word stands for.

use Rattle.std.specs.Prelude.{ℕ, Bool, not, ◌&&◌, if◌then◌else◌, nat_eq, nat_le, List, [], ◌∷◌, ◌++◌, length, drop, chars, Option, Some, None, option_and_then}
use Rattle.std.specs.List.{list_all, starts_with}
use Rattle.std.specs.Str.{is_utf8}
use Rattle.std.specs.Char.{is_control}
use Rattle.std.specs.Result.{result_ok}
use Rattle.hex.specs.Hex.{encode_lower, decode_of}
use Rattle.bw_pairs.specs.declared.spelling.Spelling.{Spelling}
use Rattle.bw_pairs.specs.declared.spelling.Spelling.TheVariants.{Words, Raw, Hex}

-- ---- out

-- `0x`, after which hex digits stand
abbrev pub mark : List ℕ
mark = 48 ∷ 120 ∷ []

-- the letters that bytes in UTF-8 spell have no control character among them
abbrev pub has_no_control : List ℕ → Bool
has_no_control bytes = list_all (λ c. not (is_control c)) (chars bytes)

-- whether bytes are written as they are: text without a control character, that does not look like
-- hex
abbrev pub is_text : List ℕ → Bool
is_text bytes = not (starts_with nat_eq bytes mark) && is_utf8 bytes && has_no_control bytes

-- bytes in hex
abbrev pub hexed : List ℕ → List ℕ
hexed bytes = mark ++ encode_lower bytes

-- how bytes are written
abbrev pub word : Spelling → List ℕ → List ℕ
word Words bytes = if is_text bytes then bytes else hexed bytes
word Raw bytes = bytes
word Hex bytes = hexed bytes

-- ---- in

-- the bytes that a word stands for, if it stands for any
abbrev pub meant : List ℕ → Option (List ℕ)
meant bytes = if starts_with nat_eq bytes mark then result_ok (decode_of (drop 2 bytes)) else Some bytes

-- bytes as a key, if they are not too few or too many
abbrev pub as_key : List ℕ → Option (List ℕ)
as_key bytes = if nat_le 1 (length bytes) && nat_le (length bytes) 128 then Some bytes else None

-- bytes as a value, if they are not too many
abbrev pub as_value : List ℕ → Option (List ℕ)
as_value bytes = if nat_le (length bytes) 512 then Some bytes else None

-- the key that a word stands for, and the value
abbrev pub key_meant : List ℕ → Option (List ℕ)
key_meant bytes = option_and_then as_key (meant bytes)

abbrev pub value_meant : List ℕ → Option (List ℕ)
value_meant bytes = option_and_then as_value (meant bytes)
