-- What the calls write for C.

use Rattle.std.specs.Prelude.{ℕ, ◌+◌, ◌*◌, ◌/◌, ◌%◌, Bool, [], ◌∷◌, ◌++◌, take, drop, length}
use Rattle.bw_record.specs.Keys.{is_below}
use Rattle.bw_leaf.specs.Changed.{Bytes}
use Rattle.bw_codec.specs.declared.head.HeaderRead.{HeaderRead}
use Rattle.bw_codec.specs.declared.head.HeaderRead.TheVariants as heading

-- room of C's after bytes were written there, as many as it has room for
abbrev pub over : Bytes → Bytes → Bytes
over room bytes = take (length room) bytes ++ drop (length bytes) room

-- ---- an image

-- a pair in an image: the key's length, the value's in two bytes, the lower first, the key and the value
abbrev pub pair_bytes : Bytes × Bytes → Bytes
pair_bytes pair = length pair.0 ∷ length pair.1 % 256 ∷ length pair.1 / 256 ∷ pair.0 ++ pair.1

-- the key of the pair that bytes begin with, or no bytes
abbrev pub key_in : Bytes → Bytes
key_in [] = []
key_in (a ∷ []) = []
key_in (a ∷ b ∷ []) = []
key_in (a ∷ b ∷ c ∷ rest) = take a rest

-- the key of the pair that begins there in an image
abbrev pub key_at : Bytes → ℕ → Bytes
key_at image at = key_in (drop at image)

-- the value of the pair that bytes begin with, or no bytes
abbrev pub value_in : Bytes → Bytes
value_in [] = []
value_in (a ∷ []) = []
value_in (a ∷ b ∷ []) = []
value_in (a ∷ b ∷ c ∷ rest) = take (b + 256 * c) (drop a rest)

-- the pair that begins there in an image
abbrev pub pair_at : Bytes → ℕ → Bytes × Bytes
pair_at image at = (key_at image at, value_in (drop at image))

-- whether the pair that begins there has a key below this one
abbrev pub is_below_at : Bytes → Bytes → ℕ → Bool
is_below_at image key at = is_below (key_at image at) key

-- the number of a segment with this heading: 0 of one without a whole header
abbrev pub number_told : HeaderRead → ℕ
number_told (heading.Whole h) = h.number
number_told heading.Part = 0
number_told heading.Bad = 0
