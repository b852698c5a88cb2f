-- The formats, and what differs between them: format 1, and every other number is format 2.

use Rattle.std.specs.Prelude.{ℕ, ◌==◌, if◌then◌else◌}

-- the format that is written
abbrev pub latest : ℕ
latest = 2

-- the last byte of a frame's and of a segment's word: 1 or 2 as text
abbrev pub digit : ℕ → ℕ
digit v = if v == 1 then 49 else 50

-- the most bytes of a key
abbrev pub key_limit : ℕ → ℕ
key_limit v = if v == 1 then 64 else 128

-- the most bytes of a value
abbrev pub value_limit : ℕ → ℕ
value_limit v = if v == 1 then 128 else 512

-- how many bytes the length of a value has
abbrev pub value_width : ℕ → ℕ
value_width v = if v == 1 then 1 else 2

-- the least and the greatest frame limit
abbrev pub least_limit : ℕ → ℕ
least_limit v = if v == 1 then 16384 else 65536

abbrev pub greatest_limit : ℕ → ℕ
greatest_limit v = if v == 1 then 65536 else 262144
