-- A frame on its way to being laid out.

use Rattle.std.specs.Prelude.{ℕ, suc, ◌+◌, ◌-◌, replicate, List, [], ◌∷◌, ◌++◌, length, take, drop}
use Rattle.bw_buffer.specs.Rows.{Parts, bytes_at, front_of}
use Rattle.bw_buffer.specs.declared.rows.Row.{Row}

abbrev pub zeros : ℕ → List ℕ
zeros n = replicate n 0

-- bytes filled up with zeros
abbrev pub padded : ℕ → List ℕ → List ℕ
padded n xs = xs ++ zeros (n - length xs)

-- blocks of which these pieces are written, from an index on
abbrev pub filled : ℕ → List Row → Parts → List ℕ
filled i [] ps = []
filled i (r ∷ rs) ps = (front_of r ++ padded r.len (bytes_at i ps)) ++ filled (suc i) rs ps

-- where the next piece of each goes; the first begins at an offset
abbrev pub ends : ℕ → ℕ → List Row → Parts → List ℕ
ends base i [] ps = []
ends base i (r ∷ rs) ps = (base + length (front_of r) + length (bytes_at i ps)) ∷ ends (base + length (front_of r) + r.len) (suc i) rs ps

-- bytes with others in their place, from an index on
abbrev pub written : ℕ → List ℕ → List ℕ → List ℕ
written at xs old = take at old ++ (xs ++ drop (at + length xs) old)
