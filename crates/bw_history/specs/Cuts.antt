-- Frames by their numbers.

use Rattle.std.specs.Prelude.{ℕ, ◌^◌, Option, None, Some}

-- a number, or the one above the greatest
abbrev pub end_by : Option ℕ → ℕ
end_by None = 2 ^ 64
end_by (Some n) = n
