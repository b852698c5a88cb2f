-- Dumps: keys and values as lines of a dump, and the bytes for which such a line stands.

use Rattle.std.specs.Prelude.{ℕ, Bool, not, ◌&&◌, ◌==◌, ◌+◌, ◌*◌, ◌%◌, nat_le, if◌then◌else◌, List, [], ◌∷◌, ◌++◌, codes, decimal, flat_map, Option, Some, None, option_map, option_and_then}
use Rattle.std.specs.Result.{result_ok}
use Rattle.hex.specs.Hex.{encode_lower, decode_of, hex_digit_value}
use Rattle.bw_pairs.specs.Words.{as_key, as_value}
use Rattle.bw_pairs.specs.declared.dump.Letters.{Letters}
use Rattle.bw_pairs.specs.declared.dump.Letters.TheVariants.{Hex, Print}
use Rattle.bw_pairs.specs.declared.dump.Escape.{Escape}
use Rattle.bw_pairs.specs.declared.dump.Escape.TheVariants.{Outside, Begun, Half}

-- ---- out

-- whether a byte stands for itself: printable ASCII, but for the backslash
abbrev pub is_printed : ℕ → Bool
is_printed byte = nat_le 32 byte && nat_le byte 126 && not (byte == 92)

-- a byte, or a backslash and its two digits
abbrev pub escape : ℕ → List ℕ
escape byte = if is_printed byte then byte ∷ [] else 92 ∷ encode_lower (byte ∷ [])

-- bytes in the letters of a dump
abbrev pub lettered : Letters → List ℕ → List ℕ
lettered Hex bytes = encode_lower bytes
lettered Print bytes = flat_map escape bytes

-- the line of a key or of a value
abbrev pub dump_line : Letters → List ℕ → List ℕ
dump_line letters bytes = 32 ∷ lettered letters bytes

-- the lines that say how bytes are spelled, which name a database has, and how large its map is
abbrev pub format_line : Letters → List ℕ
format_line Hex = codes "format=bytevalue\n"
format_line Print = codes "format=print\n"

abbrev pub name_line : Option (List ℕ) → List ℕ
name_line None = []
name_line (Some name) = codes "database=" ++ flat_map escape name ++ 10 ∷ []

abbrev pub size_line : Option ℕ → List ℕ
size_line None = []
size_line (Some size) = codes "mapsize=" ++ decimal size ++ 10 ∷ []

-- what stands before the lines of the pairs, and after them
abbrev pub dump_header : Letters → Option (List ℕ) → Option ℕ → List ℕ
dump_header letters name mapsize =
    codes "VERSION=3\n" ++ format_line letters ++ name_line name ++ codes "type=btree\n" ++ size_line mapsize ++ codes "HEADER=END\n"

abbrev pub dump_end : List ℕ
dump_end = codes "DATA=END\n"

-- ---- in

abbrev pub before : ℕ → Option (List ℕ) → Option (List ℕ)
before byte rest = option_map (λ bytes. byte ∷ bytes) rest

-- the bytes of letters with escapes, from a place in an escape or outside of one: after a backslash
-- comes another one or two digits
abbrev pub unescaped : Escape → List ℕ → Option (List ℕ)
unescaped Outside [] = Some []
unescaped Begun [] = None
unescaped (Half first) [] = None
unescaped Outside (letter ∷ rest) = if letter == 92 then unescaped Begun rest else before letter (unescaped Outside rest)
unescaped Begun (letter ∷ rest) =
    if letter == 92 then before 92 (unescaped Outside rest)
    else option_and_then (λ first. unescaped (Half first) rest) (hex_digit_value letter)
unescaped (Half first) (letter ∷ rest) =
    option_and_then (λ second. before (first % 16 * 16 + second) (unescaped Outside rest)) (hex_digit_value letter)

-- the bytes of the letters of a dump
abbrev pub unlettered : Letters → List ℕ → Option (List ℕ)
unlettered Hex text = result_ok (decode_of text)
unlettered Print text = unescaped Outside text

-- what stands after the space of a line
abbrev pub behind_space : List ℕ → Option (List ℕ)
behind_space [] = None
behind_space (letter ∷ text) = if letter == 32 then Some text else None

-- the bytes for which a line stands, and the key or the value that they are
abbrev pub dump_meant : Letters → List ℕ → Option (List ℕ)
dump_meant letters line = option_and_then (unlettered letters) (behind_space line)

abbrev pub dump_key : Letters → List ℕ → Option (List ℕ)
dump_key letters line = option_and_then as_key (dump_meant letters line)

abbrev pub dump_value : Letters → List ℕ → Option (List ℕ)
dump_value letters line = option_and_then as_value (dump_meant letters line)
