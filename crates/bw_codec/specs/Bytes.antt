-- A run of bytes after its length, and numbers as bytes.

use Rattle.std.specs.Prelude.{ℕ, List, ◌∷◌, ◌++◌, length}
use Rattle.byteorder.specs.Endian.{little_bytes}
use Rattle.bw_record.specs.Version.{value_width}

-- one byte of length, and that many bytes
abbrev pub text : List ℕ → List ℕ
text bytes = length bytes ∷ bytes

-- a number in n bytes, the lowest first
unfoldable pub number_bytes : ℕ → ℕ → List ℕ
number_bytes n x = little_bytes n x

-- a value: its length, in as many bytes as the format has for it, and that many bytes
abbrev pub value_bytes : ℕ → List ℕ → List ℕ
value_bytes v x = number_bytes (value_width v) (length x) ++ x
